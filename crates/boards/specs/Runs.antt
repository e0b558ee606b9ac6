-- A board after any calls, whichever board it is.
use Rattle.std.specs.Prelude.{ℕ, suc, Bool, false, cond, List, [], ◌∷◌, ◌==◌}
use Rattle.boards.specs.Lines.{Line, settled, loose, Meaning, within}

pub data Call : Type 0 where
  read : ℕ → Call
  loosen : ℕ → Call
  settle : ℕ → Bool → Call

-- The value last settled at line i, low if none was; lists of calls are latest first.
abbrev pub last_settled : ℕ → List Call → Bool
last_settled i [] = false
last_settled i (read j ∷ cs) = last_settled i cs
last_settled i (loosen j ∷ cs) = last_settled i cs
last_settled i (settle j v ∷ cs) = cond (j == i) v (last_settled i cs)

-- One more at a loose line.
abbrev pub counting : Line → ℕ → ℕ
counting (settled v) k = k
counting loose k = suc k

module _ {B : Type 0} (m : Meaning B) where
  abbrev pub after_call : B → Call → B
  after_call b (read i) = within i (m.count b) (m.after_read b i) b
  after_call b (loosen i) = within i (m.count b) (m.loosened b i) b
  after_call b (settle i v) = within i (m.count b) (m.set_to b i v) b

  abbrev pub after : B → List Call → B
  after b [] = b
  after b (c ∷ cs) = after_call (after b cs) c

  -- How many of the calls read a loose line.
  abbrev pub loose_reads : B → List Call → ℕ
  loose_reads b [] = 0
  loose_reads b (read i ∷ cs) = within i (m.count (after b cs)) (counting (m.line (after b cs) i) (loose_reads b cs)) (loose_reads b cs)
  loose_reads b (loosen i ∷ cs) = loose_reads b cs
  loose_reads b (settle i v ∷ cs) = loose_reads b cs
