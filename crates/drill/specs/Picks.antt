-- A go with the first pick that the station's set has.
use Rattle.std.specs.Prelude.{ℕ, zero, suc, ◌+◌, Bool, true, false, cond, Err, Result}
use Rattle.boards.specs.Lines.{Meaning}
use Rattle.steps.specs.declared.answers.Outcome.{Outcome}
use Rattle.steps.specs.declared.answers.Refusal.{Refusal}
use Rattle.steps.specs.declared.answers.Refusal.TheVariants.{WrongPick}
use Rattle.steps.specs.Table.{Table}
use Rattle.junction.specs.declared.state.Junction.{Junction}
use Rattle.junction.specs.Calls.{go_answers, go_leaves}

-- Whether a go is refused for its pick.
abbrev pub wrong_pick : Result Outcome Refusal → Bool
wrong_pick (Err WrongPick) = true
wrong_pick other = false

module _ {D B : Type 0} (t : Table) (m : Meaning B) where
  -- Goes of station p with picks from k on, n of them at most, up to the first that is not refused for its pick.
  unfoldable pub step_answers : Junction D B → ℕ → ℕ → ℕ → Result Outcome Refusal
  step_answers j p k zero = Err WrongPick
  step_answers j p k (suc n) = cond (wrong_pick (go_answers t m j p k)) (step_answers (go_leaves t m j p k) p (k + 1) n) (go_answers t m j p k)

  unfoldable pub step_leaves : Junction D B → ℕ → ℕ → ℕ → Junction D B
  step_leaves j p k zero = j
  step_leaves j p k (suc n) = cond (wrong_pick (go_answers t m j p k)) (step_leaves (go_leaves t m j p k) p (k + 1) n) (go_leaves t m j p k)
