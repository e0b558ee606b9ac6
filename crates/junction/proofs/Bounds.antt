-- No count of a history comes near what 64 bits hold: grants are among the calls that the limit counts, ends are not more
-- than grants, and each round ends in such a call or in the end of a hold.
use Rattle.std.proofs.Common.{◌≡◌, ℕ, ◌+◌, ◌≤◌, true, ◌&&◌, ◌⊎◌, List, [], ◌∷◌, arith}
use Rattle.std.proofs.lemmas.Bool.Decides.{nat_tests}
use Rattle.steps.specs.Rows.{merge_place}
use Rattle.steps.specs.Table.{Table}
use Rattle.runs.specs.Runs.{Event, State, reply, run, limit, is_accepted, limited}
use Rattle.runs.specs.Words.{Counted}
use Rattle.junction.proofs.Tally.{grants_by, ends_by, round_by, Small}

module _ (t : Table) (N name : ℕ) (merging : t.grant ≤ merge_place) where
  grant_limited : (s : State) (e : Event) → grants_by t N s e (reply t N name s e) ≡ true → limited e && is_accepted (reply t N name s e) ≡ true
  grant_limited s e h = grind (arith, nat_tests)

  round_limited : (s : State) (e : Event) → round_by t N s e (reply t N name s e) ≡ true → (limited e && is_accepted (reply t N name s e) ≡ true) ⊎ (ends_by t N s e (reply t N name s e) ≡ true)
  round_limited s e h = grind (arith, nat_tests)

  bounds : (es : List Event) → ((run t N name es).grants ≤ (run t N name es).used) × ((run t N name es).rounds ≤ (run t N name es).used + (run t N name es).ends)
  bounds [] = (omega arith, omega arith)
  bounds (e ∷ es) =
      let s : State = run t N name es in
      let b = bounds es in
      let grant = grant_limited s e in
      let round = round_limited s e in
      (grind arith, grind arith)

  ends_few : (es : List Event) → Counted t N name es → (run t N name es).ends ≤ (run t N name es).grants
  ends_few es c = grind arith

  pub small : (es : List Event) → Counted t N name es → (run t N name es).used ≤ limit → Small (run t N name es)
  small es c u =
      let b = bounds es in
      let d = ends_few es c in
      record { grants = omega arith; ends = omega arith; rounds = omega arith }
