use Rattle.std.proofs.Common.{◌≡◌, ◌<◌, ◌+◌, ◌^◌, ◌∷◌, sym, length, inl, rules, arith}
use Rattle.schedule.specs.Kept.{fits}
use Rattle.schedule.specs.Left.{left}
use Rattle.schedule.specs.View.{plan}
use Rattle.play.specs.OneEvent.{after_event, written_of}
use Rattle.play.proofs.GoesOn.{Leads, goes_on, next_is}
use Rattle.play.proofs.events.play_events.Goals as goal

pub loop-i-preserved : goal.loop-i-preserved
loop-i-preserved g c =
    let s = c.in-Some.ensures.steps in
    let rest = left c.next.new.self.iter in
    let was : Leads g.D.Discipline.table g.B.Board.meaning (plan c.args.schedule.now).events c.args.j.now c.args.account.now (c.in-Some.event ∷ rest) c.in-Some.i c.loop-i.j c.loop-i.account = rw (sym s.0, s.1) c.loop-i.invariant.2 in
    let found = next_is was in
    let value : c.play_event.result ≡ written_of g.D.Discipline.table g.B.Board.meaning c.loop-i.j c.in-Some.event c.in-Some.i = search (rules, found) in
    let leaves : c.play_event.new.j ≡ after_event g.D.Discipline.table g.B.Board.meaning c.loop-i.j c.in-Some.event = search (rules, found) in
    let is = goes_on was value leaves c.write.ensures.text c.write.ensures.grants c.write.ensures.refusals c.write.ensures.same (omega (arith, (fits c.args.schedule.now).few_events, c.write.ensures.long)) in
    let b : c.next.new.self.count + length rest < 2 ^ 64 = omega (arith, s.1, s.2, is.count, (fits c.args.schedule.now).few_events) in
    ((tt, tt, inl b), tt, rw (s.2, sym s.1) is)
