use Rattle.std.proofs.Common.{◌+◌, ◌*◌, ap, sym, ◌∙◌}
use Rattle.schedule.specs.View.{plan}
use Rattle.play.proofs.Noted.{end_by_calls}
use Rattle.play.proofs.TextIs.{text_long, ended}
use Rattle.play.proofs.whole.play_on.Goals as goal

pub returns-clause-calls : goal.returns-clause-calls
returns-clause-calls g c = c.play_events.ensures.junction ∙ end_by_calls g.D.Discipline.table g.B.Board.meaning (plan c.args.schedule.now).events c.args.j.now

pub returns-clause-shown : goal.returns-clause-shown
returns-clause-shown g c =
    let t = g.D.Discipline.table in
    let m = g.B.Board.meaning in
    let es = (plan c.args.schedule.now).events in
    record {
      long_is = ap (λ n. 12 * n + 20) c.len-at.ensures ∙ sym (text_long t m es c.args.j.now);
      out_is =
          ended t m es c.args.j.now c.play_events.new.j c.args.account.now.out.now c.play_events.new.account.out.now c.write_at.new.out c.end_line-line.result c.len-at.result c.totals-totals.result
          c.play_events.ensures.junction c.play_events.ensures.text c.totals-totals.ensures c.end_line-line.ensures.line c.len-at.ensures c.write_at.ensures.text;
      grants_are = c.play_events.ensures.grants;
      refusals_are = c.play_events.ensures.refusals;
    }
