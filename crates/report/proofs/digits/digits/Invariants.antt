use Rattle.std.proofs.Common.{◌≡◌, ◌++◌, length, drop}
use Rattle.report.specs.Digits.{padded}
use Rattle.report.proofs.digits.digits.Given as goal

abbrev pub invariant-loop-i : goal.invariant-loop-i
invariant-loop-i g l =
    (length l.bytes ≡ g.row.W) × (padded l.i l.rest ++ drop l.i l.bytes ≡ padded g.row.W l.n)
