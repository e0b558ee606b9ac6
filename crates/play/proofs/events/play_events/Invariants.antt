use Rattle.schedule.specs.Left.{left}
use Rattle.schedule.specs.View.{plan}
use Rattle.play.proofs.GoesOn.{Leads}
use Rattle.play.proofs.events.play_events.Given as goal

abbrev pub invariant-loop-i : goal.invariant-loop-i
invariant-loop-i g l =
    (goal.iterator-loop-i g).can_next l.i-iterator
    × (goal.iterator-loop-i g).is_finite l.i-iterator
    × Leads g.D.Discipline.table g.B.Board.meaning (plan l.schedule).events l.initial.j l.initial.account (left l.i-iterator.iter) l.i-iterator.count l.j l.account
