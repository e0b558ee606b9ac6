-- A number is 0 where each bit of it is.
use Rattle.std.proofs.Common.{◌≡◌, ℕ, ◌^◌, ◌<◌, false, not, nat_eq, Decides, refl, arith}
use Rattle.std.proofs.lemmas.Bool.Decides.{same_from_decides, Decides-below_and, nat_tests}
use Rattle.std.proofs.lemmas.Bool.{eqb-true}
use Rattle.std.proofs.lemmas.Nat.Bits.{bit_at-zero, bit_at-lt, same_from_bits_below}
use Rattle.sets.specs.declared.Set.{Set}
use Rattle.sets.specs.Sets.{has, nowhere, is_none}
use Rattle.sets.proofs.Set.is_empty.Goals as goal

Without : Set → Type 0
Without s = (k : ℕ) → k < 32 → has s k ≡ false

by_bits : (s : Set) → s.bits < 2 ^ 32 → Decides (nat_eq s.bits 0) (Without s)
unfolding has Without
by_bits s lt = (
  (λ e k l. let b = bit_at-zero k in let z = eqb-true s.bits 0 e in rw z (grind (arith, nat_tests))),
  (λ h. let z : s.bits ≡ 0 = same_from_bits_below 32 s.bits 0 lt (omega arith) (λ k l. let z = bit_at-zero k in let x = bit_at-lt s.bits k in let y = h k l in grind (arith, nat_tests)) in grind (arith, nat_tests)),
)

by_members : (s : Set) → Decides (is_none s) (Without s)
unfolding is_none nowhere Without
by_members s = Decides-below_and (λ k. not (has s k)) (λ k. has s k ≡ false) (λ n. nowhere n (has s)) (λ k. (λ e. grind arith, λ e. grind arith)) refl (λ _. refl) 32

pub returns : goal.returns
returns c = same_from_decides _ _ (by_bits c.args.self (omega arith)) (by_members c.args.self)
