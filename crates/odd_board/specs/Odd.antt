-- What the odd board means: a loose line answers by the parity of the reads so far.
use Rattle.std.specs.Prelude.{◌≡◌, ℕ, ◌+◌, ◌%◌, ◌<◌, Bool, true, false, cond, ◌≢◌, length, replicate, ◌==◌, slice_index_or, slice_set, refl}
use Rattle.std.proofs.Common.{sym, ◌∙◌, length-set, get_or-set_same, get_or-set_other}
use Rattle.boards.specs.Lines.{Line, settled, loose, Meaning, Lawful}
use Rattle.odd_board.specs.declared.board.Kept.{Kept}
use Rattle.odd_board.specs.declared.board.Kept.TheVariants.{Low, High, Loose}
use Rattle.odd_board.specs.declared.board.OddBoard.{OddBoard}

abbrev pub shown : Kept → Line
shown Low = settled false
shown High = settled true
shown Loose = loose

-- A settled line answers its value, a loose one what is given.
abbrev pub heard : Kept → Bool → Bool
heard Low x = false
heard High x = true
heard Loose x = x

abbrev pub settled_at : Bool → Kept
settled_at v = cond v High Low

abbrev pub kept_at : OddBoard → ℕ → Kept
kept_at b i = slice_index_or b.lines i Low

abbrev pub with_line : OddBoard → ℕ → Kept → OddBoard
with_line b i k = record b { lines = slice_set b.lines i k }

abbrev pub new_odd : OddBoard
new_odd = record { lines = replicate 16 Low; reads = 0 }

-- Every read is counted, and the count goes round.
abbrev pub odd : Meaning OddBoard
odd = record {
  count = λ b. length b.lines;
  line = λ b i. shown (kept_at b i);
  answer = λ b i. heard (kept_at b i) (b.reads % 2 == 1);
  after_read = λ b i. record b { reads = (b.reads + 1) % 256 };
  loosened = λ b i. with_line b i Loose;
  set_to = λ b i v. with_line b i (settled_at v);
}

answers : (k : Kept) (x v : Bool) → shown k ≡ settled v → heard k x ≡ v
answers Low x v e = cc
answers High x v e = cc
answers Loose x v e = cc

shown_settled : (v : Bool) → shown (settled_at v) ≡ settled v
shown_settled true = refl
shown_settled false = refl

line_same : (b : OddBoard) (i : ℕ) (k : Kept) → i < length b.lines → shown (kept_at (with_line b i k) i) ≡ shown k
line_same b i k h = rw get_or-set_same

line_other : (b : OddBoard) (i j : ℕ) (k : Kept) → i ≢ j → shown (kept_at (with_line b i k) j) ≡ shown (kept_at b j)
line_other b i j k ne = let ne' : j ≢ i = (λ e. ne (sym e)) in rw get_or-set_other

pub odd_lawful : Lawful odd
odd_lawful = record {
  settled_answers = λ b i v h e. answers (kept_at b i) _ v e;
  read_count = λ b i. refl;
  read_line = λ b i j. refl;
  loosen_count = λ b i. simp length-set;
  loosen_same = λ b i h. line_same b i Loose h;
  loosen_other = λ b i j h ne. line_other b i j Loose ne;
  settle_count = λ b i v. simp length-set;
  settle_same = λ b i v h. line_same b i (settled_at v) h ∙ shown_settled v;
  settle_other = λ b i j v h ne. line_other b i j (settled_at v) ne;
}
