-- Two stations of the four-line discipline: 0 has raised its turn when 1 starts.
use Rattle.std.specs.Prelude.{◌≡◌, ℕ, ◌<◌, ◌≤◌, ◌≢◌, List, [], ◌∷◌, ◌++◌, Ok, ◌==◌}
use Rattle.boards.specs.Hold.{Hold, hold}
use Rattle.disciplines.specs.declared.four_line.FourLine.{FourLine}
use Rattle.steps.specs.declared.answers.Outcome.TheVariants.{Accepted, Waits}
use Rattle.sets.specs.Sets.{has}
use Rattle.steps.specs.FourLine.{four_line}
use Rattle.runs.specs.Runs.{limit}
use Rattle.junction.specs.declared.state.Junction.{Junction}
use Rattle.junction.specs.Calls.{station, place, go_answers}
use Rattle.junction.specs.Promise.{Call, to_start, to_stir, to_fail, to_take, to_go, to_leave, to_void, after}
use Rattle.worked.specs.Lone.{start_and_goes, went, AllDone}

-- The calls that are goes or stirs, of whatever station and with whatever pick.
abbrev pub GoesOrStirs : Call → Type 0
GoesOrStirs (to_go p k) = Unit {0}
GoesOrStirs (to_stir p) = Unit {0}
GoesOrStirs (to_start p) = ⊥
GoesOrStirs (to_fail p) = ⊥
GoesOrStirs (to_take p) = ⊥
GoesOrStirs (to_leave c) = ⊥
GoesOrStirs (to_void c) = ⊥

-- Station 1 is behind station 0.
pub record WaitsBehind (j : Junction FourLine Hold) : Type 0 where
  -- it comes no further than 27
  pub up_to_27 : (22 ≤ place j 1) × (place j 1 ≤ 27)
  -- past 23 it has copied turn number 0 and no other
  pub copies : 24 ≤ place j 1 → (k : ℕ) → has (station j 1).rec.copy k ≡ (k == 0)
  -- for this turn it waits at 27, whatever it picks
  pub waits_for : place j 1 ≡ 27 → (station j 1).rec.kept ≡ 0
  pub waits : place j 1 ≡ 27 → j.counts.used < limit → (k : ℕ) → go_answers four_line hold j 1 k ≡ Ok Waits
  -- up to 26 it goes on
  pub goes_on : place j 1 ≢ 27 → j.counts.used < limit → (k : ℕ) × (go_answers four_line hold j 1 k ≡ Ok Accepted)

module _ (j : Junction FourLine Hold) where
  -- Station 0, alone so far, stands at 25 after its first start and goes with these picks.
  abbrev pub At25 : List ℕ → Type 0
  At25 picks = AllDone four_line j 0 [] picks × (place (went four_line j 0 [] picks) 0 ≡ 25)

  -- Then station 1 starts, and later calls follow.
  abbrev pub since : List ℕ → List Call → Junction FourLine Hold
  since picks later = after four_line hold j (later ++ (to_start 1 ∷ start_and_goes 0 [] picks))

  -- The later calls are goes and stirs of both stations in any order, and throughout station 0 stays at 25 to 34.
  abbrev pub Stays : List ℕ → List Call → Type 0
  Stays picks [] = Unit {0}
  Stays picks (c ∷ later) = GoesOrStirs c × (25 ≤ place (since picks (c ∷ later)) 0) × (place (since picks (c ∷ later)) 0 ≤ 34) × Stays picks later
