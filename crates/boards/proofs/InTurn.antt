-- The tape's noise after any calls: as many bits on as loose lines were read.
use Rattle.std.proofs.Common.{◌≡◌, ℕ, suc, ◌/◌, ◌%◌, ◌^◌, ◌<◌, ◌≤◌, Bool, true, false, cond, ltb, List, [], ◌∷◌, length, sym, refl, ◌∙◌, ⊎_elim, mod-lt, mod-eq_of_lt, arith, Bor}
use native.Mathlib.Nat.{mod_self, suc-mod, zero-mod, zero-div}
use Rattle.std.proofs.lemmas.Bool.{cases_lt}
use Rattle.std.proofs.lemmas.Bool.Decides.{nat_tests}
use Rattle.boards.specs.Lines.{settled, loose}
use Rattle.boards.specs.Runs.{Call, read, loosen, settle, after, loose_reads, counting}
use Rattle.boards.specs.Cells.{cell_at}
use Rattle.boards.specs.Tape.{Tape, tape, new_tape, after_bit, next_bit, byte_behind, noise_bit, AnswersInTurn}
use Rattle.boards.specs.declared.cells.Cells.{Cells}
use Rattle.boards.specs.declared.tape.Noise.{Noise}

-- The noise stands at its bit k.
record At (noise : List ℕ) (k : ℕ) (r : Noise) : Type 0 where
  same : r.bytes.now ≡ noise
  bit : r.bit ≡ k % 8
  byte : 0 < length noise → r.byte ≡ k / 8 % length noise

behind : (m n : ℕ) → 0 < n → byte_behind (m % n) n ≡ suc m % n
behind m n h =
    let lt = mod-lt m h in
    let e = suc-mod m n in
    ⊎_elim (λ (a : suc (m % n) < n). let f = mod-eq_of_lt a in grind (arith, nat_tests))
    (λ (b : n ≤ suc (m % n)). let same : suc (m % n) ≡ n = omega arith in let f = mod_self n in grind (arith, nat_tests))
    (cases_lt (suc (m % n)) n)

next_byte_at : (k n : ℕ) → 0 < n → cond (ltb (k % 8) 7) (k / 8 % n) (byte_behind (k / 8 % n) n) ≡ suc k / 8 % n
next_byte_at k n h = let b = behind (k / 8) n h in grind (arith, nat_tests)

stepped : (noise : List ℕ) (k : ℕ) (r : Noise) → At noise k r → At noise (suc k) (after_bit r)
stepped noise k r a = record {
  same = a.same;
  bit = grind (arith, nat_tests);
  byte = λ h. rw (a.bit, a.byte h, a.same) (next_byte_at k (length noise) h);
}

module _ (noise : List ℕ) (k : ℕ) (b : Tape) (a : At noise k b.reader) where
  read_kept : (there free v : Bool) → At noise (cond there (counting (cond free loose (settled v)) k) k) (cond there (record { cells = b.cells; reader = cond free (after_bit b.reader) b.reader }) b).reader
  read_kept true true v = stepped noise k b.reader a
  read_kept true false v = a
  read_kept false free v = a

  write_kept : (there : Bool) (c : Cells) → At noise k (cond there (record { cells = c; reader = b.reader }) b).reader
  write_kept true c = a
  write_kept false c = a

module _ (noise : List ℕ) (b : Tape) (a : At noise 0 b.reader) where
  at_after : (cs : List Call) → At noise (loose_reads tape b cs) (after tape b cs).reader
  at_after [] = a
  at_after (read i ∷ cs) = let c = cell_at (after tape b cs).cells i in read_kept noise _ _ (at_after cs) _ c.loose c.last
  at_after (loosen i ∷ cs) = write_kept noise _ _ (at_after cs) _ _
  at_after (settle i v ∷ cs) = write_kept noise _ _ (at_after cs) _ _

next_is : (noise : List ℕ) (k : ℕ) (r : Noise) → At noise k r → next_bit r ≡ noise_bit noise k
next_is [] k r a = rw (a.same, zero-div (2 ^ r.bit), zero-div (2 ^ (k % 8))) refl
next_is (x ∷ xs) k r a = rw (a.same, a.byte (omega arith), a.bit) refl

free_answers : (free last next : Bool) → cond free loose (settled last) ≡ loose → cond free next last ≡ next
free_answers true last next e = refl
free_answers false last next e = cc

pub in_turn : (n : ℕ) (noise : Bor (List ℕ)) → AnswersInTurn noise.now (new_tape n noise)
in_turn n noise cs i e =
    let b = after tape (new_tape n noise) cs in
    let start : At noise.now 0 (new_tape n noise).reader = record { same = refl; bit = refl; byte = λ h. sym (zero-mod (length noise.now)) } in
    free_answers (cell_at b.cells i).loose (cell_at b.cells i).last (next_bit b.reader) e
    ∙ next_is noise.now (loose_reads tape (new_tape n noise) cs) b.reader (at_after noise.now (new_tape n noise) start cs)
