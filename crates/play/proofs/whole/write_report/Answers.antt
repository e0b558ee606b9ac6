use Rattle.std.proofs.Common.{[], refl, rules}
use Rattle.schedule.specs.Refusals.{number_of, index_of}
use Rattle.schedule.specs.View.{plan}
use Rattle.report.specs.Lines.{refusal_line}
use Rattle.boards.specs.Tape.{tape, new_tape}
use Rattle.play.specs.Report.{shown_on, bench_lines}
use Rattle.play.proofs.TextIs.{pasted}
use Rattle.play.proofs.whole.write_report.Goals as goal

pub returns-in-Err-clause-all : goal.returns-in-Err-clause-all
returns-in-Err-clause-all c =
    let line = refusal_line (number_of c.in-Err.refusal) (index_of c.in-Err.refusal) in
    (record { text = line; grants = []; refusals = [] }, search rules, record { long_is = refl; out_is = search (rules, pasted [] c.args.out.now line 11 0 refl refl); grants_are = refl; refusals_are = refl })

pub returns-else-is_empty-clause-all : goal.returns-else-is_empty-clause-all
returns-else-is_empty-clause-all c =
    let p = plan c.in-Ok.schedule in
    (shown_on tape (new_tape bench_lines c.noise-noise.result) p p.discipline, search rules, search rules)
