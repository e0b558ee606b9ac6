use Rattle.std.proofs.Common.{true, false, refl, arith}
use Rattle.steps.specs.FourLine.{four_line}
use Rattle.steps.specs.Plain.{plain}
use Rattle.runs.proofs.LinesApart.{four_lines, plain_lines}
use Rattle.runs.proofs.Tables.{four_one, plain_one}
use Rattle.worked.proofs.Easy.{checked, loose_read, plain_must_leave, four_must_leave, not_voided}
use Rattle.worked.proofs.Short.{starts_once, stirs_at_door, picks_turn}
use Rattle.worked.proofs.Failing.{fails_with_pass}
use Rattle.worked.proofs.Lone.Arriving.{plain_arrives, four_arrives}
use Rattle.worked.proofs.Behind.Comes.{comes_to_25}
use Rattle.worked.proofs.Behind.Runs.{waits_behind}
use Rattle.worked.proofs.worked_runs_stand.Goals as goal

pub returns : goal.returns
returns c = record {
  counted = refl;
  stand = record {
    checked = checked;
    short_board = refl;
    starts_once = record {
      four_line = λ N name p few lt. starts_once four_line four_lines four_one (record {}) N name p (λ n. refl) (omega arith) few lt;
      plain = λ N name p few lt. starts_once plain plain_lines plain_one (record {}) N name p (λ n. refl) (omega arith) few lt;
    };
    four_line_arrives = four_arrives;
    plain_arrives = plain_arrives;
    picks_turn = picks_turn four_lines four_one;
    must_leave = record { four_line = four_must_leave; plain = plain_must_leave };
    behind_the_first = λ name. record { comes_to_25 = comes_to_25 name; waits_behind = waits_behind name };
    fails_with_pass = record { four_line = fails_with_pass four_line four_lines four_one (record {}); plain = fails_with_pass plain plain_lines plain_one (record {}) };
    not_voided = record { four_line = not_voided four_line; plain = not_voided plain };
    loose_reads = record { first = loose_read 0 true refl; second = loose_read 1 false refl; third = loose_read 2 true refl };
    stirs_at_door = stirs_at_door four_lines four_one;
  };
}
