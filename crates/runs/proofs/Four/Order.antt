-- No station holds the merge while another is ahead of it.
use Rattle.std.proofs.Common.{◌≤◌, false, arith}
use Rattle.std.proofs.lemmas.Bool.Decides.{nat_tests}
use Rattle.steps.specs.FourLine.{four_line}
use Rattle.runs.specs.Runs.{run}
use Rattle.runs.specs.Laws.{InOrder}
use Rattle.runs.proofs.Ghost.{ahead_is}
use Rattle.runs.proofs.ContestRuns.{inside}
use Rattle.runs.proofs.FourContest.{Place, four_contest}
use Rattle.runs.proofs.Four.Pairs.{pair}

pub four_order : InOrder four_line
four_order N name es q r few ltr ne h a =
    let lo : 34 ≤ ((run four_line N name es).own q).rec.place = grind (arith, nat_tests) in
    let hi : ((run four_line N name es).own q).rec.place ≤ 37 = grind (arith, nat_tests) in
    let ltq = inside four_line 34 Place four_contest N name few es q (λ e. omega arith) in
    let x = ahead_is four_line N name es q r a in
    let y = (pair N name few es q r ltq ltr ne false).first (omega arith, omega arith) in
    grind arith
