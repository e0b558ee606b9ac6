-- Runs that are a few calls long.
use Rattle.std.proofs.Common.{◌≡◌, ℕ, ◌<◌, Bool, [], ◌∷◌, refl, ap, ◌∙◌, arith}
use Rattle.std.proofs.lemmas.Bool.{lt-ltb}
use Rattle.std.proofs.lemmas.Bool.Decides.{nat_tests}
use Rattle.boards.proofs.InTurn.{in_turn}
use Rattle.boards.specs.Tape.{noise_bit}
use Rattle.boards.specs.Hold.{Hold, hold}
use Rattle.disciplines.specs.declared.plain.Plain.{Plain}
use Rattle.disciplines.specs.declared.four_line.FourLine.{FourLine}
use Rattle.steps.specs.declared.plain.PlainPlace.TheVariants as at_plain
use Rattle.steps.specs.declared.four_line.FourPlace.TheVariants as at_four
use Rattle.steps.specs.Table.{Table}
use Rattle.steps.specs.Plain as plains
use Rattle.steps.specs.Plain.{plain}
use Rattle.steps.specs.FourLine as fours
use Rattle.steps.specs.FourLine.{four_line}
use Rattle.runs.specs.Runs.{limit}
use Rattle.junction.specs.declared.pass.Pass.{Pass}
use Rattle.junction.specs.declared.state.Junction.{Junction}
use Rattle.junction.specs.Calls.{go_answers, answered, go_of, place, station, look_of}
use Rattle.junction.specs.Wires.{hears}
use Rattle.worked.specs.Worked.{Checked, IsToldToLeave, NotVoided, LooseRead}

pub checked : Checked
checked = record { none = refl; sixteen = refl; seventeen = refl }

pub loose_read : (k : ℕ) (v : Bool) → noise_bit (5 ∷ []) k ≡ v → LooseRead k v
loose_read k v e lines noise is cs i so free = in_turn lines noise cs i free ∙ ap (noise_bit noise.now) so ∙ ap (λ x. noise_bit x k) is ∙ e

-- the places of the merge
plain_37 : (n : ℕ) → n ≡ 37 → plains.view n ≡ at_plain.Merging
unfolding plains.view
plain_37 n e = rw e refl

four_37 : (n : ℕ) → n ≡ 37 → fours.view n ≡ at_four.Merging
unfolding fours.view
four_37 n e = rw e refl

go_says : {D : Type 0} (t : Table) (j : Junction D Hold) (p k : ℕ) → p < j.size.stations → j.counts.used < limit → go_answers t hold j p k ≡ answered (go_of t hold j p k)
go_says t j p k lt under = rw (lt-ltb p j.size.stations lt, lt-ltb j.counts.used limit under) refl

pub plain_must_leave : (j : Junction Plain Hold) (p : ℕ) → IsToldToLeave plain j p
plain_must_leave j p lt under at k =
    let n : ℕ = j.size.stations in
    go_says plain j p k lt under ∙ ap (λ v. answered (plains.goes v n p (station j p).rec k (hears plain hold n j.board (look_of plain hold j p k)))) (plain_37 (place j p) at)

pub four_must_leave : (j : Junction FourLine Hold) (p : ℕ) → IsToldToLeave four_line j p
four_must_leave j p lt under at k =
    let n : ℕ = j.size.stations in
    go_says four_line j p k lt under ∙ ap (λ v. answered (fours.goes v n p (station j p).rec k (hears four_line hold n j.board (look_of four_line hold j p k)))) (four_37 (place j p) at)

pub not_voided : {D : Type 0} (t : Table) (j : Junction D Hold) (c : Pass) → NotVoided t j c
not_voided t j c lt cur = rw (lt-ltb c.station j.size.stations lt, cur) (grind (arith, nat_tests))
