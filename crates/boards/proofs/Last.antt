-- The hold board after any calls: each cell keeps the value last settled there.
use Rattle.std.proofs.Common.{◌≡◌, ℕ, ◌<◌, false, cond, eqb, List, [], ◌∷◌, length, arith, get_or-set_other}
use Rattle.std.proofs.lemmas.Bool.Decides.{nat_tests}
use Rattle.std.proofs.lemmas.Grind.{get_or-set_at}
use Rattle.boards.specs.Runs.{Call, read, loosen, settle, after, last_settled}
use Rattle.boards.specs.Cells.{size, cell_at, with_cell, low_cell, most_lines}
use Rattle.boards.specs.Hold.{Hold, hold, hold_lawful, new_hold, AnswersLast}
use Rattle.boards.specs.declared.cells.Cell.{Cell}
use Rattle.boards.specs.declared.cells.Cells.{Cells}
use Rattle.boards.proofs.Counts.{count_kept}
use Rattle.boards.proofs.Fresh.{get_or_same}

written : (d : Cells) (i j : ℕ) (c : Cell) → j < size d → (cell_at (with_cell d j c) i).last ≡ cond (eqb j i) c.last (cell_at d i).last
written d i j c h = let lt : j < length d.cells = omega arith in grind (arith, nat_tests, get_or-set_at, get_or-set_other)

module _ (b : Hold) (low : (i : ℕ) → hold.answer b i ≡ false) where
  last_after : (cs : List Call) (i : ℕ) → i < hold.count b → hold.answer (after hold b cs) i ≡ last_settled i cs
  last_after [] i h = low i
  last_after (read j ∷ cs) i h = grind (arith, nat_tests, last_after cs i h)
  last_after (loosen j ∷ cs) i h = grind (arith, nat_tests, written, count_kept hold hold_lawful b cs, last_after cs i h)
  last_after (settle j v ∷ cs) i h = grind (arith, nat_tests, written, count_kept hold hold_lawful b cs, last_after cs i h)

pub answers_last : (n : ℕ) → AnswersLast (new_hold n)
answers_last n = last_after (new_hold n) (λ i. rw (get_or_same most_lines i low_cell))
