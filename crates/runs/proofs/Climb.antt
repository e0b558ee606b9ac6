-- A station that waits for a claim leads to a higher one that may move, and so to one that moves.
use Rattle.std.proofs.Common.{◌≡◌, ℕ, zero, suc, ◌+◌, ◌<◌, ◌≤◌, true, false, ◌⊎◌, refl, inl, inr, ⊎_elim, arith}
use Rattle.std.proofs.lemmas.Bool.{cases_eq}
use Rattle.boards.specs.Lines.{Line, settled, loose}
use Rattle.runs.specs.Runs.{Own}
use Rattle.runs.proofs.ContestFacts.{low, Raised, Sound}

line_cases : (v : Line) → (v ≡ low) ⊎ (v ≡ low → ⊥)
line_cases (settled false) = inl refl
line_cases (settled true) = inr (λ e. grind arith)
line_cases loose = inr (λ e. grind arith)

-- A station that waits for a line at one of two places: the line is low wherever it waits, or it waits and the line is not low.
pub wait_cases : (n a b : ℕ) (v : Line) → ((n ≡ a) ⊎ (n ≡ b) → v ≡ low) ⊎ (((n ≡ a) ⊎ (n ≡ b)) × (v ≡ low → ⊥))
wait_cases n a b v =
    elim (line_cases v) [
      | inl l ↦ inl (λ _. l)
      | inr h ↦ elim (cases_eq n a) [
        | inl x ↦ inr (inl x, h)
        | inr na ↦ elim (cases_eq n b) [ inl x ↦ inr (inr x, h) | inr nb ↦ inl (λ d. absurd (⊎_elim na nb d)) ]
      ]
    ]

-- Fit says what a discipline asks of a station besides that it waits for no claim. Whose claim is not low is fit.
module _ (N : ℕ) (w : ℕ → Own) (sound : (p k : ℕ) → Sound p k (w p)) (Fit : ℕ → Type 0) (Goal : Type 0)
    (inside : (p : ℕ) → Fit p → p < N) (raised_fit : (p : ℕ) → Raised (w p).rec.place → Fit p)
    (ready : (p : ℕ) → Fit p → (((w p).rec.place ≡ 31) ⊎ ((w p).rec.place ≡ 33) → (w (w p).rec.kept).claim ≡ low) → Goal) where
  -- A claim that is not low is raised.
  raised : (k : ℕ) → ((w k).claim ≡ low → ⊥) → Raised (w k).rec.place
  raised k n = let r = (sound k 0).rests in grind arith

  -- At 33 a station waits for one above it, so n steps up from p there is none left to wait for.
  climb : (n p : ℕ) → N ≤ p + n → Fit p → ((w p).rec.place ≡ 31 → (w (w p).rec.kept).claim ≡ low) → Goal
  climb zero p far f c = let x = inside p f in absurd (omega arith)
  climb (suc n) p far f c =
      elim (wait_cases (w p).rec.place 33 33 (w (w p).rec.kept).claim) [
        | inl d ↦ ready p f (λ x. ⊎_elim c (λ y. d (inl y)) x)
        | inr (at, h) ↦
            let k : ℕ = (w p).rec.kept in
            let x : (w p).rec.place ≡ 33 = grind arith in
            let up = (sound p k).above (inr x) ((sound p k).keeps x) in
            let r = raised k h in
            climb n k (omega arith) (raised_fit k r) (λ e. absurd (grind arith))
      ]

  pub by_claim : (p : ℕ) → Fit p → Goal
  by_claim p f =
      elim (wait_cases (w p).rec.place 31 31 (w (w p).rec.kept).claim) [
        | inl d ↦ climb N p (omega arith) f (λ x. d (inl x))
        | inr (at, h) ↦
            let k : ℕ = (w p).rec.kept in
            let r = raised k h in
            climb N k (omega arith) (raised_fit k r) (λ e. absurd (grind arith))
      ]
