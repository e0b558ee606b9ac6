-- What a junction does on its board. A line that no station has, or that the board lacks, is left alone and read as low.
use Rattle.std.specs.Prelude.{ℕ, zero, suc, Bool, true, false, cond, Some, None, Option, nat_lt}
use Rattle.boards.specs.Lines.{Meaning}
use Rattle.steps.specs.declared.lines.Part.{Part}
use Rattle.steps.specs.declared.lines.Part.TheVariants.{Door, Claim, Turn}
use Rattle.steps.specs.declared.lines.Flag.{Flag}
use Rattle.steps.specs.declared.go.Go.{Go}
use Rattle.steps.specs.Rows.{flag}
use Rattle.steps.specs.Table.{Table}
use Rattle.runs.specs.Runs.{stirs}

-- One thing at the line of that number, where the board has it, or else another.
abbrev pub on_line : {B X : Type 0} → Meaning B → B → Option ℕ → (ℕ → X) → X → X
on_line m b None there other = other
on_line m b (Some l) there other = cond (nat_lt l (m.count b)) (there l) other

module _ {B : Type 0} (t : Table) (m : Meaning B) where
  -- What a go hears, and the board that its read leaves.
  abbrev pub hears : ℕ → B → Option Flag → Bool
  hears N b None = false
  hears N b (Some x) = on_line m b (t.number N x) (λ l. m.answer b l) false

  abbrev pub heard : ℕ → B → Option Flag → B
  heard N b None = b
  heard N b (Some x) = on_line m b (t.number N x) (λ l. m.after_read b l) b

  abbrev pub settled_on : ℕ → B → Flag → Bool → B
  settled_on N b x v = on_line m b (t.number N x) (λ l. m.set_to b l v) b

  abbrev pub loosened_on : ℕ → B → Flag → B
  loosened_on N b x = on_line m b (t.number N x) (λ l. m.loosened b l) b

  abbrev pub loosened_if : Bool → ℕ → B → Flag → B
  loosened_if c N b x = cond c (loosened_on N b x) b

  -- One line of station p in a stir of it: p stands at that place, and its next go is g.
  abbrev pub stirred_part : ℕ → ℕ → ℕ → Go → Part → B → B
  stirred_part N p place g x b = loosened_if (stirs place g x) N b (flag p x)

  abbrev pub stirred_board : ℕ → ℕ → ℕ → Go → B → B
  stirred_board N p place g b = stirred_part N p place g (Turn true) (stirred_part N p place g (Turn false) (stirred_part N p place g Claim (stirred_part N p place g Door b)))

-- All lines below k settled low.
abbrev pub lowered : {B : Type 0} → Meaning B → B → ℕ → B
lowered m b zero = b
lowered m b (suc k) = on_line m (lowered m b k) (Some k) (λ l. m.set_to (lowered m b k) l false) (lowered m b k)
