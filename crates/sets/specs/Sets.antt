-- Sets of numbers below 32: what has which members. Only this file and the laws of sets look at the bits.
use Rattle.std.specs.Prelude.{ℕ, zero, suc, ◌+◌, ◌-◌, ◌/◌, ◌%◌, ◌^◌, Bool, true, false, cond, not, ◌&&◌, ◌==◌, bit_xor, nat_lt}
use Rattle.sets.specs.declared.Set.{Set}

abbrev pub of_bits : ℕ → Set
of_bits n = record { bits = n }

unfoldable pub has : Set → ℕ → Bool
has s k = cond (nat_lt k 32) (s.bits / 2 ^ k % 2 == 1) false

-- whether f holds of no number below n
unfoldable pub nowhere : ℕ → (ℕ → Bool) → Bool
nowhere zero f = true
nowhere (suc n) f = not (f n) && nowhere n f

-- whether f holds of each number below n
abbrev pub everywhere : ℕ → (ℕ → Bool) → Bool
everywhere zero f = true
everywhere (suc n) f = f n && everywhere n f

unfoldable pub is_none : Set → Bool
is_none s = nowhere 32 (has s)

unfoldable pub none : Set
none = of_bits 0

-- all numbers below n
unfoldable pub first : ℕ → Set
first n = cond (nat_lt n 32) (of_bits (2 ^ n - 1)) (of_bits 4294967295)

-- all numbers above p and below n
unfoldable pub above : ℕ → ℕ → Set
unfolding first none
above n p = cond (nat_lt p n) (of_bits (bit_xor (first n).bits (first (p + 1)).bits)) none

unfoldable pub plus : ℕ → Set → Set
unfolding has
plus k s = cond (has s k) s (cond (nat_lt k 32) (of_bits (bit_xor s.bits (2 ^ k))) s)

unfoldable pub without : ℕ → Set → Set
unfolding has
without k s = cond (has s k) (of_bits (bit_xor s.bits (2 ^ k))) s
