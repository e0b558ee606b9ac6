-- What a board over cells means, from what its reader answers and leaves.
use Rattle.std.specs.Prelude.{◌≡◌, ℕ, Bool, true, false, cond, refl}
use Rattle.boards.specs.Lines.{settled, loose, Meaning, Lawful}
use Rattle.boards.specs.Cells.{AnswersSettled, size, cell_at, line_at, with_loose, with_settled, new_cells, size_kept, line_same, line_other}
use Rattle.boards.specs.declared.cells.Cell.{Cell}
use Rattle.boards.specs.declared.cell_board.CellBoard.{CellBoard}

abbrev pub new_board : {R : Type 0} → ℕ → R → CellBoard R
new_board n r = record { cells = new_cells n; reader = r }

module _ {R : Type 0} (answers : R → Cell → Bool) (onward : R → Cell → R) where
  abbrev pub cell_board : Meaning (CellBoard R)
  cell_board = record {
    count = λ b. size b.cells;
    line = λ b i. line_at b.cells i;
    answer = λ b i. answers b.reader (cell_at b.cells i);
    after_read = λ b i. record b { reader = onward b.reader (cell_at b.cells i) };
    loosened = λ b i. record b { cells = with_loose b.cells i };
    set_to = λ b i v. record b { cells = with_settled b.cells i v };
  }

  module _ (heard : AnswersSettled answers) where
    answered : (r : R) (loosed last v : Bool) → cond loosed loose (settled last) ≡ settled v → answers r (record { last = last; loose = loosed }) ≡ v
    answered r true last v e = cc
    answered r false last v e = let s = heard r (record { last = last; loose = false }) refl in cc

    pub cell_board_lawful : Lawful cell_board
    cell_board_lawful = record {
      settled_answers = λ b i v h e. answered b.reader _ _ v e;
      read_count = λ b i. refl;
      read_line = λ b i j. refl;
      loosen_count = λ b i. size_kept b.cells i _;
      loosen_same = λ b i h. line_same b.cells i _ h;
      loosen_other = λ b i j h ne. line_other b.cells i j _ ne;
      settle_count = λ b i v. size_kept b.cells i _;
      settle_same = λ b i v h. line_same b.cells i _ h;
      settle_other = λ b i j v h ne. line_other b.cells i j _ ne;
    }
