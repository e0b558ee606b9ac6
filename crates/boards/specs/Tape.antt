-- What the tape board means: a loose line answers the next bit of the noise, 1 for high.
use Rattle.std.specs.Prelude.{◌≡◌, ℕ, ◌+◌, ◌-◌, ◌/◌, ◌%◌, ◌^◌, Bool, cond, List, length, ◌==◌, nat_lt, slice_index}
use Rattle.std.specs.Borrow.{Bor}
use Rattle.boards.specs.Lines.{loose, Meaning, Lawful}
use Rattle.boards.specs.Runs.{Call, after, loose_reads}
use Rattle.boards.specs.Cells.{AnswersSettled}
use Rattle.boards.specs.CellBoard.{cell_board, cell_board_lawful, new_board}
use Rattle.boards.specs.declared.cells.Cell.{Cell}
use Rattle.boards.specs.declared.cell_board.CellBoard.{CellBoard}
use Rattle.boards.specs.declared.tape.Noise.{Noise}

abbrev pub Tape : Type 0
Tape = CellBoard Noise

abbrev pub new_tape : ℕ → Bor (List ℕ) → Tape
new_tape n noise = new_board n (record { bytes = noise; byte = 0; bit = 0 })

-- Whether bit k of a byte is 1, counted from the lowest.
abbrev pub bit_of : ℕ → ℕ → Bool
bit_of byte k = byte / 2 ^ k % 2 == 1

-- The byte behind byte i of n, the first behind the last.
abbrev pub byte_behind : ℕ → ℕ → ℕ
byte_behind i n = cond (nat_lt i (n - 1)) (i + 1) 0

-- An empty tape has no byte, and gives low.
abbrev pub next_bit : Noise → Bool
next_bit r = bit_of (slice_index r.bytes.now r.byte) r.bit

-- One bit further.
abbrev pub after_bit : Noise → Noise
after_bit r = record r { byte = cond (nat_lt r.bit 7) r.byte (byte_behind r.byte (length r.bytes.now)); bit = cond (nat_lt r.bit 7) (r.bit + 1) 0 }

-- Only a read of a loose line takes a bit.
abbrev pub noise_answers : Noise → Cell → Bool
noise_answers r c = cond c.loose (next_bit r) c.last

abbrev pub noise_onward : Noise → Cell → Noise
noise_onward r c = cond c.loose (after_bit r) r

pub noise_settled : AnswersSettled noise_answers
noise_settled r c e = rw e

abbrev pub tape : Meaning Tape
tape = cell_board noise_answers noise_onward

pub tape_lawful : Lawful tape
tape_lawful = cell_board_lawful noise_answers noise_onward noise_settled

-- Bit k of all the noise, which goes round.
abbrev pub noise_bit : List ℕ → ℕ → Bool
noise_bit noise k = bit_of (slice_index noise (k / 8 % length noise)) (k % 8)

-- After any calls a loose line answers bit k of the noise, where k reads of a loose line came before.
abbrev pub AnswersInTurn : List ℕ → Tape → Type 0
AnswersInTurn noise b = (cs : List Call) (i : ℕ) → tape.line (after tape b cs) i ≡ loose → tape.answer (after tape b cs) i ≡ noise_bit noise (loose_reads tape b cs)
