-- How many goes lead a station that alone is started to the merge.
use Rattle.std.proofs.Common.{◌≡◌, ℕ, ◌+◌, ◌-◌, ◌*◌, ◌<◌, ◌≤◌, Bool, true, false, List, refl, subst, arith}
use Rattle.disciplines.specs.declared.plain.Plain.{Plain}
use Rattle.steps.specs.Plain.{plain}
use Rattle.disciplines.specs.declared.four_line.FourLine.{FourLine}
use Rattle.steps.specs.FourLine.{four_line}
use Rattle.runs.proofs.LinesApart.{plain_lines, four_lines}
use Rattle.runs.specs.Runs.{Event, run}
use Rattle.runs.proofs.Four.Sound.{sound}
use Rattle.boards.specs.Hold.{hold}
use Rattle.junction.specs.Promise.{Call, told, history}
use Rattle.worked.specs.Lone.{OnlyOf, ArrivesAfter}
use Rattle.worked.specs.Worked.{plain_junction, four_line_junction}
use Rattle.runs.proofs.Tables.{plain_one, four_one}
use Rattle.worked.proofs.Base.{size_is}
use Rattle.worked.proofs.Lone.Alone.{Walk, arrives}
use Rattle.worked.proofs.Lone.Plain as plains
use Rattle.worked.proofs.Lone.FourFit as fit
use Rattle.worked.proofs.Lone.Four as fours

pub plain_arrives : (N name p : ℕ) → N ≤ 16 → p < N → (earlier : List Call) → OnlyOf p earlier → ArrivesAfter plain (plain_junction N name) p earlier (2 * N + 1 - p)
plain_arrives N name p few lt earlier only =
    let n : ℕ = (plain_junction N name).size.stations in
    let size : n ≡ N = size_is {D = Plain} plain (record {}) N name (omega arith) few (omega arith) in
    let ltn : p < n = omega arith in
    arrives plain plain_lines plain_one (record {}) N name p earlier only (2 * N + 1 - p) (λ o. Unit {0}) (plains.Fit p) (plains.yet n p)
    (subst (λ x. Walk plain n p (2 * x + 1 - p) (λ o. Unit {0}) (plains.Fit p) (plains.yet n p)) size (plains.plain_walk n p ltn (omega arith)))
    (λ _. tt)

-- Whoever is idle has its lines low.
rests : (N name : ℕ) → N ≤ 16 → (es : List Event) (p : ℕ) → ((run four_line N name es).own p).rec.place ≡ 21 → fit.Rests ((run four_line N name es).own p).rec.side ((run four_line N name es).own p)
rests N name few es p at =
    let d = (sound N name few es p 0 false).door in
    let t0 = (sound N name few es p 0 false).turns in
    let t1 = (sound N name few es p 0 true).turns in
    record { door = grind arith; turn0 = grind arith; turn1 = grind arith; side = refl }

pub four_arrives : (N name p : ℕ) → N ≤ 16 → p < N → (earlier : List Call) → OnlyOf p earlier → ArrivesAfter four_line (four_line_junction N name) p earlier (6 * N + 8 - p)
four_arrives N name p few lt earlier only =
    let n : ℕ = (four_line_junction N name).size.stations in
    let size : n ≡ N = size_is {D = FourLine} four_line (record {}) N name (omega arith) few (omega arith) in
    let ltn : p < n = omega arith in
    let few_n : n ≤ 16 = omega arith in
    let e : Bool = ((told four_line hold (four_line_junction N name) earlier).own p).rec.side in
    arrives four_line four_lines four_one (record {}) N name p earlier only (6 * N + 8 - p) (fit.Rests e) (fit.Fit n p e) (fours.yet n p)
    (subst (λ x. Walk four_line n p (6 * x + 8 - p) (fit.Rests e) (fit.Fit n p e) (fours.yet n p)) size (fours.four_walk n p e ltn few_n))
    (rests n name few_n (history four_line hold (four_line_junction N name) earlier) p)
