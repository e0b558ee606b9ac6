-- One more pick, and the end of the picks.
use Rattle.std.proofs.Common.{◌≡◌, ℕ, suc, ◌+◌, ◌-◌, ◌<◌, ◌≤◌, cond, Err, ap, arith}
use Rattle.boards.specs.Lines.{Meaning}
use Rattle.steps.specs.declared.answers.Refusal.TheVariants.{WrongPick}
use Rattle.steps.specs.Table.{Table}
use Rattle.junction.specs.declared.state.Junction.{Junction}
use Rattle.junction.specs.Calls.{go_answers, go_leaves}
use Rattle.drill.specs.Picks.{wrong_pick, step_answers, step_leaves}

module _ {D B : Type 0} (t : Table) (m : Meaning B) (j : Junction D B) (p k : ℕ) where
  fewer : k < 6 → 6 - k ≡ suc (6 - (k + 1))
  fewer l = omega arith

  none_left : 6 ≤ k → 6 - k ≡ 0
  none_left l = omega arith

  pub answers_more : k < 6 → step_answers t m j p k (6 - k) ≡ cond (wrong_pick (go_answers t m j p k)) (step_answers t m (go_leaves t m j p k) p (k + 1) (6 - (k + 1))) (go_answers t m j p k)
  unfolding step_answers
  answers_more l = ap (λ n. step_answers t m j p k n) (fewer l)

  pub leaves_more : k < 6 → step_leaves t m j p k (6 - k) ≡ cond (wrong_pick (go_answers t m j p k)) (step_leaves t m (go_leaves t m j p k) p (k + 1) (6 - (k + 1))) (go_leaves t m j p k)
  unfolding step_leaves
  leaves_more l = ap (λ n. step_leaves t m j p k n) (fewer l)

  pub answers_end : 6 ≤ k → step_answers t m j p k (6 - k) ≡ Err WrongPick
  unfolding step_answers
  answers_end l = ap (λ n. step_answers t m j p k n) (none_left l)

  pub leaves_end : 6 ≤ k → step_leaves t m j p k (6 - k) ≡ j
  unfolding step_leaves
  leaves_end l = ap (λ n. step_leaves t m j p k n) (none_left l)

pub ruleset picking = (answers_more, leaves_more, answers_end, leaves_end)
