-- What becomes of a pass.
use Rattle.std.specs.Prelude.{ℕ, Ok, Err, Result}
use Rattle.boards.specs.Lines.{Meaning}
use Rattle.steps.specs.declared.answers.Outcome.{Outcome}
use Rattle.steps.specs.declared.answers.Refusal.{Refusal}
use Rattle.steps.specs.Table.{Table}
use Rattle.junction.specs.declared.pass.Pass.{Pass}
use Rattle.junction.specs.declared.state.Junction.{Junction}
use Rattle.junction.specs.Calls.{leave_answers, fail_leaves}
use Rattle.drill.specs.declared.passes.Ended.{Ended}
use Rattle.drill.specs.declared.passes.Ended.TheVariants.{Left, Voided}

-- A pass ends with a leave, or with a void after the leave was refused.
abbrev pub ended : Result Outcome (Pass × Refusal) → Ended
ended (Ok o) = Left
ended (Err e) = Voided e.1

module _ {D B : Type 0} (t : Table) (m : Meaning B) where
  -- The pass of a take that was answered so is handed in; a refused take is the answer, and changes nothing.
  abbrev pub ended_after : Junction D B → Result Pass Refusal → Result Ended Refusal
  ended_after j (Ok c) = Ok (ended (leave_answers t m j c))
  ended_after j (Err e) = Err e

  -- A station fails, once its take has given it a pass.
  abbrev pub failed_after : Junction D B → ℕ → Result Pass Refusal → Junction D B
  failed_after j p (Ok c) = fail_leaves t m j p
  failed_after j p (Err e) = j
