use Rattle.std.proofs.Common.{◌≤◌, length}
use Rattle.bench.proofs.fill.Given as goal

abbrev pub invariant-loop-from : goal.invariant-loop-from
invariant-loop-from g l = length l.room ≤ l.all

abbrev pub decreases-loop-from : goal.decreases-loop-from
decreases-loop-from g l = length l.room
