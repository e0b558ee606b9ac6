-- A board over cells as made has the lines asked for, up to the most, all settled low.
use Rattle.std.proofs.Common.{◌≡◌, ℕ, zero, suc, false, get_or, replicate, refl}
use Rattle.boards.specs.Lines.{settled}
use Rattle.boards.specs.Cells.{most_lines, low_cell, line_at, new_cells}

pub get_or_same : {X : Type 0} (n i : ℕ) (x : X) → get_or (replicate n x) i x ≡ x
get_or_same zero i x = refl
get_or_same (suc n) zero x = refl
get_or_same (suc n) (suc i) x = get_or_same n i x

pub all_low : (n i : ℕ) → line_at (new_cells n) i ≡ settled false
all_low n i = rw (get_or_same most_lines i low_cell)
