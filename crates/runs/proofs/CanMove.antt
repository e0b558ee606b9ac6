-- A station whose go would be done can move, and one on the merge can leave: for any table.
use Rattle.std.proofs.Common.{◌≡◌, ℕ, ◌<◌, Bool, true, ◌≢◌, List, refl, inl, inr, lt-ltb, eq-eqb}
use Rattle.std.proofs.lemmas.Bool.{cases_eq}
use Rattle.steps.specs.Rows.{merge_place}
use Rattle.steps.specs.Table.{Table}
use Rattle.runs.specs.Runs.{Event, go, leave, run, reply, accepted, is_done, limit, went}
use Rattle.runs.specs.Words.{CanMove, own_pass}

module _ (t : Table) (N name : ℕ) (es : List Event) (p : ℕ) (lt : p < N) where
  -- On the merge a station leaves with its own pass.
  leaves : ((run t N name es).own p).rec.place ≡ merge_place → accepted t N name (run t N name es) (leave (own_pass t N name es p)) ≡ true
  leaves at =
      let arrivals : ℕ = ((run t N name es).own p).arrivals in
      rw (lt-ltb p N lt, eq-eqb name name refl, at, eq-eqb arrivals arrivals refl) refl

  -- Below the limit of calls a go is answered as the table says.
  goes : (run t N name es).used < limit → (k : ℕ) (heard : Bool)
      → is_done (went t N (run t N name es).own p k heard) ≡ true → is_done (reply t N name (run t N name es) (go p k heard)) ≡ true
  goes under k heard h = rw (lt-ltb p N lt, lt-ltb (run t N name es).used limit under) h

  -- So a station can move that is on the merge, or whose go with some pick is done whichever way a loose line reads.
  pub can_move : (run t N name es).used < limit → (k : ℕ)
      → (((run t N name es).own p).rec.place ≢ merge_place → (heard : Bool) → is_done (went t N (run t N name es).own p k heard) ≡ true) → CanMove t N name es p
  can_move under k h =
      elim (cases_eq ((run t N name es).own p).rec.place merge_place) [
        | inl at ↦ inr (leaves at)
        | inr off ↦ inl (k, λ heard. goes under k heard (h off heard))
      ]
