-- Lines kept in cells: what they mean, and what loosening and settling one does to them all.
use Rattle.std.specs.Prelude.{◌≡◌, ℕ, ◌<◌, min, Bool, true, false, cond, ◌≢◌, length, replicate, slice_index_or, slice_set}
use Rattle.std.proofs.Common.{sym, arith, length-set, get_or-set_same, get_or-set_other}
use Rattle.boards.specs.Lines.{Line, settled, loose}
use Rattle.boards.specs.declared.cells.Cell.{Cell}
use Rattle.boards.specs.declared.cells.Cells.{Cells}

-- How many lines there are at most.
abbrev pub most_lines : ℕ
most_lines = 64

abbrev pub low_cell : Cell
low_cell = record { last = false; loose = false }

abbrev pub shown : Cell → Line
shown c = cond c.loose loose (settled c.last)

-- A cell that is not loose answers its value, whatever reads it.
abbrev pub AnswersSettled : {R : Type 0} → (R → Cell → Bool) → Type 0
AnswersSettled {R} answers = (r : R) (c : Cell) → c.loose ≡ false → answers r c ≡ c.last

abbrev pub size : Cells → ℕ
size b = min b.asked (length b.cells)

abbrev pub cell_at : Cells → ℕ → Cell
cell_at b i = slice_index_or b.cells i low_cell

abbrev pub line_at : Cells → ℕ → Line
line_at b i = shown (cell_at b i)

abbrev pub with_cell : Cells → ℕ → Cell → Cells
with_cell b i c = record b { cells = slice_set b.cells i c }

-- A loose line keeps the value that was last settled.
abbrev pub with_loose : Cells → ℕ → Cells
with_loose b i = with_cell b i (record { last = (cell_at b i).last; loose = true })

abbrev pub with_settled : Cells → ℕ → Bool → Cells
with_settled b i v = with_cell b i (record { last = v; loose = false })

abbrev pub new_cells : ℕ → Cells
new_cells n = record { cells = replicate most_lines low_cell; asked = n }

pub size_kept : (b : Cells) (i : ℕ) (c : Cell) → size (with_cell b i c) ≡ size b
size_kept b i c = simp length-set

pub line_same : (b : Cells) (i : ℕ) (c : Cell) → i < size b → line_at (with_cell b i c) i ≡ shown c
line_same b i c h = let lt : i < length b.cells = omega arith in rw get_or-set_same

pub line_other : (b : Cells) (i j : ℕ) (c : Cell) → i ≢ j → line_at (with_cell b i c) j ≡ line_at b j
line_other b i j c ne = let ne' : j ≢ i = (λ e. ne (sym e)) in rw get_or-set_other
