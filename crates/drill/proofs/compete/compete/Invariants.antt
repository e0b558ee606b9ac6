use Rattle.std.proofs.Common.{◌≤◌}
use Rattle.drill.proofs.compete.compete.Given as goal

abbrev pub invariant-loop-i : goal.invariant-loop-i
invariant-loop-i g l = l.waits ≤ l.i-iterator.count
