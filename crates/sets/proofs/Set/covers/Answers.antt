-- The ones from the lowest bit on are the members below the first number that is none.
use Rattle.std.proofs.Common.{◌≡◌, ℕ, ◌+◌, ◌^◌, ◌<◌, ◌≤◌, true, leb, Decides, ⊎_elim, refl, arith}
use Rattle.std.specs.Int.{trailing_ones, w32}
use Rattle.std.specs.Int.Count.{trailing_of_zero}
use Rattle.std.proofs.lemmas.Bool.{cases_lt}
use Rattle.std.proofs.lemmas.Bool.Decides.{same_from_decides, Decides-below_and, nat_tests}
use Rattle.std.proofs.lemmas.Nat.Bits.{bit_at_ones, bit_at-trailing_ones}
use Rattle.sets.specs.declared.Set.{Set}
use Rattle.sets.specs.Sets.{has, everywhere}
use Rattle.sets.proofs.Set.covers.Goals as goal

record Ones (s : Set) (t : ℕ) : Type 0 where
  below : (k : ℕ) → k < t → has s k ≡ true
  ends : has s t ≡ true → ⊥

ones : (s : Set) → s.bits < 2 ^ 32 → Ones s (trailing_ones w32 s.bits)
unfolding has
ones s lt =
    ⊎_elim (λ (a : s.bits + 1 < 2 ^ 32). let b = bit_at-trailing_ones w32 s.bits a in record {
      below = λ k l. let o = b.2 k l in grind (arith, nat_tests);
      ends = λ e. grind (arith, nat_tests);
    })
    (λ (a : 2 ^ 32 ≤ s.bits + 1). let e : s.bits ≡ 4294967295 = omega arith in rw (e, trailing_of_zero) (record {
      below = λ k l. let o = bit_at_ones 32 k l in grind (arith, nat_tests);
      ends = λ x. grind (arith, nat_tests);
    }))
    (cases_lt (s.bits + 1) (2 ^ 32))

Covered : Set → ℕ → Type 0
Covered s n = (k : ℕ) → k < n → has s k ≡ true

by_ones : (s : Set) (t n : ℕ) → Ones s t → Decides (leb n t) (Covered s n)
unfolding Covered
by_ones s t n o = (λ e k l. o.below k (grind (arith, nat_tests)), λ h. let x = h t in let y = o.ends in grind (arith, nat_tests))

by_members : (s : Set) (n : ℕ) → Decides (everywhere n (has s)) (Covered s n)
unfolding Covered
by_members s n = Decides-below_and (has s) (λ k. has s k ≡ true) (λ m. everywhere m (has s)) (λ k. (λ e. e, λ e. e)) refl (λ _. refl) n

pub returns : goal.returns
returns c = rw c.trailing_ones.ensures (same_from_decides _ _ (by_ones c.args.self _ c.args.n (ones c.args.self (omega arith))) (by_members c.args.self c.args.n))
