-- A station that is started and then goes, while no other station does anything.
use Rattle.std.specs.Prelude.{◌≡◌, ℕ, ◌<◌, ◌≤◌, ◌≢◌, ◌⊎◌, List, [], ◌∷◌, length, Ok, Err}
use Rattle.boards.specs.Hold.{Hold, hold}
use Rattle.steps.specs.declared.answers.Outcome.TheVariants.{Accepted}
use Rattle.steps.specs.declared.answers.Refusal.TheVariants.{WrongPick}
use Rattle.steps.specs.Rows.{merge_place}
use Rattle.steps.specs.Table.{Table}
use Rattle.runs.specs.Runs.{limit}
use Rattle.junction.specs.declared.state.Junction.{Junction}
use Rattle.junction.specs.Calls.{place, start_answers, go_answers}
use Rattle.junction.specs.Promise.{Call, to_start, to_go, named, after}

-- All of these calls named station p.
abbrev pub OnlyOf : ℕ → List Call → Type 0
OnlyOf p [] = Unit {0}
OnlyOf p (c ∷ cs) = (named c ≡ p) × OnlyOf p cs

-- A start of station p after some calls, then a go with each of these picks; the newest stands first.
abbrev pub start_and_goes : ℕ → List Call → List ℕ → List Call
start_and_goes p earlier [] = to_start p ∷ earlier
start_and_goes p earlier (k ∷ ks) = to_go p k ∷ start_and_goes p earlier ks

module _ {D : Type 0} (t : Table) (j : Junction D Hold) (p : ℕ) (earlier : List Call) where
  -- The junction after them.
  abbrev pub went : List ℕ → Junction D Hold
  went picks = after t hold j (start_and_goes p earlier picks)

  -- The start was accepted, and each of these goes was accepted and did a step: no pick was wrong, and none waited.
  abbrev pub AllDone : List ℕ → Type 0
  AllDone [] = start_answers t hold (after t hold j earlier) p ≡ Ok Accepted
  AllDone (k ∷ ks) = (go_answers t hold (went ks) p k ≡ Ok Accepted) × AllDone ks

  -- From this start the station comes to the merge by exactly n goes, whatever picks are made.
  pub record ArrivesAfter (n : ℕ) : Type 0 where
    -- it is there after n goes, at no earlier one, and there are no more
    pub there : (picks : List ℕ) → AllDone picks → length picks ≡ n → place (went picks) p ≡ merge_place
    pub not_before : (picks : List ℕ) → AllDone picks → length picks < n → place (went picks) p ≢ merge_place
    pub no_more : (picks : List ℕ) → AllDone picks → length picks ≤ n
    -- until then it never waits: a go that the limit of calls allows is accepted, or its pick is wrong; and some pick is right
    pub never_waits : (picks : List ℕ) → AllDone picks → length picks < n → (went picks).counts.used < limit → (k : ℕ) →
        (go_answers t hold (went picks) p k ≡ Ok Accepted) ⊎ (go_answers t hold (went picks) p k ≡ Err WrongPick)
    pub right_pick : (picks : List ℕ) → AllDone picks → length picks < n → (went picks).counts.used < limit →
        (k : ℕ) × (go_answers t hold (went picks) p k ≡ Ok Accepted)
