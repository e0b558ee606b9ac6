use Rattle.std.proofs.Common.{◌≡◌, ◌-◌}
use Rattle.drill.specs.Picks.{step_answers, step_leaves}
use Rattle.drill.proofs.picks.step.Given as goal

-- what is left of the picks gives the result
abbrev pub invariant-loop-pick : goal.invariant-loop-pick
invariant-loop-pick g l =
    (step_answers g.D.Discipline.table g.B.Board.meaning l.j l.p l.pick (6 - l.pick) ≡ step_answers g.D.Discipline.table g.B.Board.meaning l.initial.j l.p 0 6)
    × (step_leaves g.D.Discipline.table g.B.Board.meaning l.j l.p l.pick (6 - l.pick) ≡ step_leaves g.D.Discipline.table g.B.Board.meaning l.initial.j l.p 0 6)
