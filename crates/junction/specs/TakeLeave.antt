-- A pass that is taken and handed in at once; a refused take is the answer.
use Rattle.std.specs.Prelude.{ℕ, Ok, Err, Result}
use Rattle.boards.specs.Lines.{Meaning}
use Rattle.steps.specs.declared.answers.Outcome.{Outcome}
use Rattle.steps.specs.declared.answers.Refusal.{Refusal}
use Rattle.steps.specs.Table.{Table}
use Rattle.junction.specs.declared.pass.Pass.{Pass}
use Rattle.junction.specs.declared.state.Junction.{Junction}
use Rattle.junction.specs.Calls.{take_answers, take_leaves, leave_answers, leave_leaves}
use Rattle.junction.specs.Promise.{handing}

module _ {D B : Type 0} (t : Table) (m : Meaning B) where
  abbrev pub left_answers : Junction D B → Result Pass Refusal → Result Outcome Refusal
  left_answers j (Ok pass) = handing (leave_answers t m j pass)
  left_answers j (Err e) = Err e

  abbrev pub left_leaves : Junction D B → Result Pass Refusal → Junction D B
  left_leaves j (Ok pass) = leave_leaves t m j pass
  left_leaves j (Err e) = j

  abbrev pub take_leave_answers : Junction D B → ℕ → Result Outcome Refusal
  take_leave_answers j p = left_answers (take_leaves t m j p) (take_answers t m j p)

  abbrev pub take_leave_leaves : Junction D B → ℕ → Junction D B
  take_leave_leaves j p = left_leaves (take_leaves t m j p) (take_answers t m j p)
