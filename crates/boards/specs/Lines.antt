-- What a board of lines means.
use Rattle.std.specs.Prelude.{◌≡◌, ℕ, ◌<◌, Bool, false, cond, ◌≢◌, nat_lt}

-- A line is settled at a value (true for high), or loose: being written.
pub data Line : Type 0 where
  settled : Bool → Line
  loose : Line

-- What a board says of itself: its lines, what a read answers, and the board that each call leaves.
pub record Meaning (B : Type 0) : Type 0 where
  pub count : B → ℕ
  pub line : B → ℕ → Line
  pub answer : B → ℕ → Bool
  pub after_read : B → ℕ → B
  pub loosened : B → ℕ → B
  pub set_to : B → ℕ → Bool → B

-- What every board keeps. The count never changes. A settled line answers its value. A read changes no line; loosen and
-- settle change the named line as they say, and no other.
pub record Lawful {B : Type 0} (m : Meaning B) : Type 0 where
  pub settled_answers : (b : B) (i : ℕ) (v : Bool) → i < m.count b → m.line b i ≡ settled v → m.answer b i ≡ v
  pub read_count : (b : B) (i : ℕ) → m.count (m.after_read b i) ≡ m.count b
  pub read_line : (b : B) (i j : ℕ) → m.line (m.after_read b i) j ≡ m.line b j
  pub loosen_count : (b : B) (i : ℕ) → m.count (m.loosened b i) ≡ m.count b
  pub loosen_same : (b : B) (i : ℕ) → i < m.count b → m.line (m.loosened b i) i ≡ loose
  pub loosen_other : (b : B) (i j : ℕ) → i < m.count b → i ≢ j → m.line (m.loosened b i) j ≡ m.line b j
  pub settle_count : (b : B) (i : ℕ) (v : Bool) → m.count (m.set_to b i v) ≡ m.count b
  pub settle_same : (b : B) (i : ℕ) (v : Bool) → i < m.count b → m.line (m.set_to b i v) i ≡ settled v
  pub settle_other : (b : B) (i j : ℕ) (v : Bool) → i < m.count b → i ≢ j → m.line (m.set_to b i v) j ≡ m.line b j

-- A board as made: so many lines, all settled low.
pub record Fresh {B : Type 0} (m : Meaning B) (lines : ℕ) (b : B) : Type 0 where
  pub counted : m.count b ≡ lines
  pub low : (i : ℕ) → m.line b i ≡ settled false

-- A call at line i of n: the first where there is such a line, and else the second.
abbrev pub within : {X : Type 0} → ℕ → ℕ → X → X → X
within i n accepted refused = cond (nat_lt i n) accepted refused
