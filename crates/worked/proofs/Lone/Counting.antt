-- How many members a set has.
use Rattle.std.proofs.Common.{◌≡◌, ℕ, zero, suc, ◌-◌, ◌<◌, ◌≤◌, min, Bool, true, cond, not, ◌&&◌, eqb, ltb, refl, ap, ◌∙◌, arith}
use Rattle.std.proofs.lemmas.Bool.Decides.{nat_tests}
use Rattle.sets.specs.declared.Set.{Set}
use Rattle.sets.specs.Sets.{has, nowhere, is_none, first, above, without}
use Rattle.sets.proofs.SetLaws.{without_at, first_at, above_at, has_small}

-- Of how many numbers below n a test holds.
unfoldable pub tally : ℕ → (ℕ → Bool) → ℕ
tally zero f = 0
tally (suc n) f = cond (f n) (suc (tally n f)) (tally n f)

unfoldable pub members : Set → ℕ
members s = tally 32 (has s)

beyond : (n k : ℕ) (f : ℕ → Bool) → n ≤ k → tally n (λ q. f q && not (eqb q k)) ≡ tally n f
unfolding tally
beyond zero k f h = refl
beyond (suc n) k f h = let ih = beyond n k f in grind (arith, nat_tests)

less_one : (n k : ℕ) (f : ℕ → Bool) → k < n → f k ≡ true → suc (tally n (λ q. f q && not (eqb q k))) ≡ tally n f
unfolding tally
less_one zero k f h e = absurd (omega arith)
less_one (suc n) k f h e = let ih = less_one n k f in let o = beyond n k f in grind (arith, nat_tests)

-- One fewer without a member.
pub members_without : (k : ℕ) (s : Set) → has s k ≡ true → suc (members (without k s)) ≡ members s
unfolding members
members_without k s h = ap (λ f. suc (tally 32 f)) (λ i q. without_at k s q i) ∙ less_one 32 k (has s) (has_small s k h) h

nowhere_none : (n : ℕ) (f : ℕ → Bool) → nowhere n f ≡ true → tally n f ≡ 0
unfolding tally nowhere
nowhere_none zero f h = refl
nowhere_none (suc n) f h = let ih = nowhere_none n f in grind (arith, nat_tests)

pub members_empty : (s : Set) → is_none s ≡ true → members s ≡ 0
unfolding members is_none
members_empty s h = nowhere_none 32 (has s) h

below : (m n : ℕ) → m ≤ 32 → tally m (λ q. ltb q n && ltb q 32) ≡ min m n
unfolding tally
below zero n h = omega arith
below (suc m) n h = let ih = below m n (omega arith) in grind (arith, nat_tests)

pub members_first : (n : ℕ) → n ≤ 32 → members (first n) ≡ n
unfolding members
members_first n h = ap (tally 32) (λ i q. first_at n q i) ∙ below 32 n (omega arith) ∙ omega arith

between : (m n p : ℕ) → m ≤ 32 → tally m (λ q. ltb p q && ltb q n && ltb q 32) ≡ min m n - suc p
unfolding tally
between zero n p h = omega arith
between (suc m) n p h = let ih = between m n p (omega arith) in grind (arith, nat_tests)

pub members_above : (n p : ℕ) → n ≤ 32 → members (above n p) ≡ n - suc p
unfolding members
members_above n p h = ap (tally 32) (λ i q. above_at n p q i) ∙ between 32 n p (omega arith) ∙ omega arith
