-- The words of the subject, over histories: who holds the merge, who is ahead, who is busy, who can move.
use Rattle.std.specs.Prelude.{◌≡◌, ℕ, suc, ◌<◌, ◌≤◌, Bool, true, ◌≢◌, ◌⊎◌, List, [], ◌∷◌, ◌++◌}
use Rattle.steps.specs.Rows.{idle_place}
use Rattle.steps.specs.Table.{Table}
use Rattle.runs.specs.Runs.{Event, start, go, leave, Ticket, run, reply, accepted, is_done, holds, of, frees}

module _ (t : Table) (N name : ℕ) where
  abbrev pub Holds : List Event → ℕ → Type 0
  Holds es p = holds t ((run t N name es).own p).rec.place ≡ true

  abbrev pub Busy : List Event → ℕ → Type 0
  Busy es p = ((run t N name es).own p).rec.place ≢ idle_place

  -- The pass of a station's latest arrival on the merge.
  abbrev pub own_pass : List Event → ℕ → Ticket
  own_pass es p = record { name = name; station = p; arrival = ((run t N name es).own p).arrivals }

  -- A station can move by a go with some pick, whichever way a loose line reads, or on the merge by a leave with its current pass.
  abbrev pub CanMove : List Event → ℕ → Type 0
  CanMove es p = ((k : ℕ) × ((heard : Bool) → is_done (reply t N name (run t N name es) (go p k heard)) ≡ true)) ⊎ (accepted t N name (run t N name es) (leave (own_pass es p)) ≡ true)

  -- Nobody holds the merge, and as many holds have ended as were granted; or one station holds it, and one more was granted.
  abbrev pub Counted : List Event → Type 0
  Counted es = (((p : ℕ) → p < N → Holds es p → ⊥) × ((run t N name es).grants ≡ (run t N name es).ends)) ⊎ ((p : ℕ) × (p < N) × Holds es p × ((run t N name es).grants ≡ suc (run t N name es).ends))

  -- No call among the later ones, after the earlier ones, is accepted and of that kind.
  abbrev pub NoneSince : (Event → Type 0) → List Event → List Event → Type 0
  NoneSince K earlier [] = Unit {0}
  NoneSince K earlier (e ∷ later) = (K e → accepted t N name (run t N name (later ++ earlier)) e ≢ true) × NoneSince K earlier later

  -- Station r is ahead of q: it stood at 25 to 37 at q's latest accepted start, and no leave or fail of r was accepted since.
  pub record Ahead (es : List Event) (q r : ℕ) : Type 0 where
    pub later : List Event
    pub earlier : List Event
    pub split : es ≡ later ++ (start q ∷ earlier)
    pub started : accepted t N name (run t N name earlier) (start q) ≡ true
    pub latest : NoneSince (λ e. e ≡ start q) (start q ∷ earlier) later
    pub stood : (25 ≤ ((run t N name earlier).own r).rec.place) × (((run t N name earlier).own r).rec.place ≤ 37)
    pub stays : NoneSince (λ e. (frees e ≡ true) × (of e ≡ r)) (start q ∷ earlier) later
