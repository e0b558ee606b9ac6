use Rattle.std.proofs.Common.{◌≡◌}
use Rattle.junction.specs.Wires.{lowered}
use Rattle.junction.proofs.wires.lower.Given as goal

abbrev pub invariant-loop-line : goal.invariant-loop-line
invariant-loop-line g l = l.board ≡ lowered g.B.Board.meaning l.initial.board l.line
