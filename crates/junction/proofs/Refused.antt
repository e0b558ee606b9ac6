-- A refused call changes nothing: of every junction, whatever it holds.
use Rattle.std.proofs.Common.{◌≡◌, ℕ, true, None, Err, refl, ap, ◌∙◌, arith}
use Rattle.boards.specs.Lines.{Meaning}
use Rattle.steps.specs.declared.go.Go.{Go}
use Rattle.steps.specs.declared.answers.Refusal.{Refusal}
use Rattle.steps.specs.Table.{Table}
use Rattle.runs.specs.Laws.{InRange}
use Rattle.runs.specs.Runs.{refuses}
use Rattle.junction.specs.declared.state.Junction.{Junction}
use Rattle.junction.specs.Wires.{heard}
use Rattle.junction.specs.Calls.{with_board, answered, acted, look_of, go_of}
use Rattle.junction.specs.Promise.{Call, to_start, to_stir, to_fail, to_take, to_go, to_leave, to_void, call_leaves, call_answers}

module _ {D B : Type 0} (t : Table) (m : Meaning B) (again : ℕ → ℕ) (range : InRange t again) (j : Junction D B) (e : Refusal) where
  -- a go that is refused reads no line
  go_stays : (p k : ℕ) (g : Go) → go_of t m j p k ≡ g → answered g ≡ Err e → acted t m (with_board j (heard t m j.size.stations j.board (look_of t m j p k))) p g ≡ j
  go_stays p k g q h = let unread : refuses g ≡ true → look_of t m j p k ≡ None = λ f. range.unread j.size.stations p _ k _ (ap refuses q ∙ f) in grind arith

  pub call_stays : (c : Call) → call_answers t m j c ≡ Err e → call_leaves t m j c ≡ j
  call_stays (to_start p) h = grind arith
  call_stays (to_stir p) h = grind arith
  call_stays (to_fail p) h = grind arith
  call_stays (to_go p k) h = let stays = go_stays p k (go_of t m j p k) refl in grind arith
  call_stays (to_take p) h = grind arith
  call_stays (to_leave c) h = grind arith
  call_stays (to_void c) h = refl
