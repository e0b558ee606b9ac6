-- Both disciplines have one holder at most.
use Rattle.std.proofs.Common.{arith}
use Rattle.steps.specs.FourLine.{four_line}
use Rattle.steps.specs.Plain.{plain}
use Rattle.runs.specs.Laws.{OneHolder}
use Rattle.runs.proofs.OneHolder.{one_holder}
use Rattle.runs.proofs.FourContest as four_contest
use Rattle.runs.proofs.PlainContest as plain_contest

pub four_one : OneHolder four_line
four_one = one_holder four_line 34 four_contest.Place four_contest.four_contest four_contest.four_shaped (omega arith) (omega arith)

pub plain_one : OneHolder plain
plain_one = one_holder plain 37 plain_contest.Place plain_contest.plain_contest plain_contest.plain_shaped (omega arith) (omega arith)
