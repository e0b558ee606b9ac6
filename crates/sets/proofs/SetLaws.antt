-- What each operation on sets does to their members: laws without premises, one number at a time.
use Rattle.std.proofs.Common.{◌≡◌, ℕ, zero, suc, ◌+◌, ◌-◌, ◌%◌, ◌^◌, ◌<◌, ◌≤◌, Bool, true, false, cond, not, ◌&&◌, ◌||◌, eqb, ltb, refl, ap, ◌∙◌, ⊎_elim, arith, lt-ltb, le-ltb}
use Rattle.std.specs.Int.{bit_at}
use lib.Bits.{bit_xor, differ}
use Rattle.std.proofs.lemmas.Bool.Decides.{nat_tests}
use Rattle.std.proofs.lemmas.Bool.{cond_both, cases_lt, eqb-true}
use Rattle.std.proofs.lemmas.Nat.Bits.{bit_at_xor, bit_at-pow_same, bit_at-pow_other, bit_at_ones, bit_at_ones_above, bit_at-zero, bit_at-lt}
use Rattle.sets.specs.declared.Set.{Set}
use Rattle.sets.specs.Sets.{of_bits, has, plus, without, none, first, above, is_none, nowhere}

-- Members are below 32.
pub has_small : (s : Set) (k : ℕ) → has s k ≡ true → k < 32
unfolding has
has_small s k e = grind (arith, nat_tests)

-- The sum of two bits is odd where they differ.
odd_sum : (x y : ℕ) → x < 2 → y < 2 → (x + y) % 2 ≡ differ x y
odd_sum zero zero a b = refl
odd_sum zero (suc zero) a b = refl
odd_sum (suc zero) zero a b = refl
odd_sum (suc zero) (suc zero) a b = refl
odd_sum zero (suc (suc y)) a b = absurd (omega arith)
odd_sum (suc zero) (suc (suc y)) a b = absurd (omega arith)
odd_sum (suc (suc x)) y a b = absurd (omega arith)

-- An exclusive or goes bit by bit.
pub bit-xor : (a b k : ℕ) → bit_at (bit_xor a b) k ≡ differ (bit_at a k) (bit_at b k)
bit-xor a b k = bit_at_xor a b k ∙ odd_sum (bit_at a k) (bit_at b k) (bit_at-lt a k) (bit_at-lt b k)

-- A bit and a test, exclusively: turned over where the test holds.
turned : (x : ℕ) (y : Bool) → x < 2 → eqb (differ x (cond y 1 0)) 1 ≡ cond y (not (eqb x 1)) (eqb x 1)
turned zero true h = refl
turned zero false h = refl
turned (suc zero) true h = refl
turned (suc zero) false h = refl
turned (suc (suc x)) y h = absurd (omega arith)

-- A power of two has its one bit.
bit_pow : (k q : ℕ) → bit_at (2 ^ k) q ≡ cond (eqb q k) 1 0
bit_pow k q =
    cond_both (eqb q k) 1 0 (λ x. bit_at (2 ^ k) q ≡ x) (λ e. rw (eqb-true q k e) (bit_at-pow_same k)) (λ e. bit_at-pow_other k q (grind (arith, nat_tests)))

-- One less than a power of two has all bits below it.
bit_ones : (n q : ℕ) → bit_at (2 ^ n - 1) q ≡ cond (ltb q n) 1 0
bit_ones n q =
    ⊎_elim (λ (a : q < n). rw (lt-ltb q n a) (bit_at_ones n q a)) (λ (b : n ≤ q). rw (le-ltb q n b) (bit_at_ones_above n q b)) (cases_lt q n)

-- The bit of k turned over.
has_turned : (n k q : ℕ) → has (of_bits (bit_xor n (2 ^ k))) q ≡ cond (ltb q 32) (cond (eqb q k) (not (eqb (bit_at n q) 1)) (eqb (bit_at n q) 1)) false
unfolding has
has_turned n k q = ap (λ x. cond (ltb q 32) x false) (ap (λ x. eqb x 1) (bit-xor n (2 ^ k) q) ∙ ap (λ x. eqb (differ (bit_at n q) x) 1) (bit_pow k q) ∙ turned (bit_at n q) (eqb q k) (bit_at-lt n q))

pub without_at : (k : ℕ) (s : Set) (q : ℕ) → has (without k s) q ≡ has s q && not (eqb q k)
unfolding without has
without_at k s q =
    let t = has_turned s.bits k q in
    cond_both (has s k) (of_bits (bit_xor s.bits (2 ^ k))) s (λ x. has x q ≡ has s q && not (eqb q k))
    (λ e. grind (arith, nat_tests))
    (λ e. grind (arith, nat_tests))

-- A number from 32 on is not taken in.
pub plus_at : (k : ℕ) (s : Set) (q : ℕ) → has (plus k s) q ≡ has s q || (ltb k 32 && eqb q k)
unfolding plus has
plus_at k s q = let t = has_turned s.bits k q in grind (arith, nat_tests)

pub none_at : (q : ℕ) → has none q ≡ false
unfolding none has
none_at q = let b = bit_at-zero q in grind (arith, nat_tests)

first_bit : (n q : ℕ) → bit_at (first n).bits q ≡ cond (ltb q n && ltb q 32) 1 0
unfolding first
first_bit n q =
    cond_both (ltb n 32) (of_bits (2 ^ n - 1)) (of_bits 4294967295) (λ x. bit_at x.bits q ≡ cond (ltb q n && ltb q 32) 1 0)
    (λ e. let b = bit_ones n q in grind (arith, nat_tests))
    (λ e. let b = bit_ones 32 q in grind (arith, nat_tests))

pub first_at : (n q : ℕ) → has (first n) q ≡ ltb q n && ltb q 32
unfolding has
first_at n q = let b = first_bit n q in grind (arith, nat_tests)

pub above_at : (n p q : ℕ) → has (above n p) q ≡ ltb p q && ltb q n && ltb q 32
unfolding above none has
above_at n p q =
    let f : ℕ = (first n).bits in
    let g : ℕ = (first (p + 1)).bits in
    cond_both (ltb p n) (of_bits (bit_xor f g)) (of_bits 0) (λ x. has x q ≡ ltb p q && ltb q n && ltb q 32)
    (λ e.
    let x = turned (bit_at f q) (ltb q (p + 1) && ltb q 32) (bit_at-lt f q) in
    let a = first_bit n q in
    let b = first_bit (p + 1) q in
    let c = bit_at_xor f g q in
    grind (arith, nat_tests))
    (λ e. let b = bit_at-zero q in grind (arith, nat_tests))

-- Where a test holds nowhere below n, it fails at each number below n.
pub nowhere_at : (n : ℕ) (f : ℕ → Bool) (k : ℕ) → nowhere n f ≡ true → k < n → f k ≡ false
unfolding nowhere
nowhere_at zero f k e h = grind arith
nowhere_at (suc n) f k e h = let ih = nowhere_at n f k in grind (arith, nat_tests)

-- A set that is empty has no member.
pub empty_at : (s : Set) (q : ℕ) → is_none s ≡ true → has s q ≡ false
unfolding is_none
empty_at s q e = let a = nowhere_at 32 (has s) q e in let b = has_small s q in grind (arith, nat_tests)

-- The last number below n of which f holds, where there is one.
pub last_below : ℕ → (ℕ → Bool) → ℕ
last_below zero f = 0
last_below (suc n) f = cond (f n) n (last_below n f)

last_in : (n : ℕ) (f : ℕ → Bool) → nowhere n f ≡ false → f (last_below n f) ≡ true
unfolding nowhere last_below
last_in zero f e = grind arith
last_in (suc n) f e = let ih = last_in n f in grind arith

-- A member, where there is one.
unfoldable pub member : Set → ℕ
member s = last_below 32 (has s)

-- A set that is not empty has a member.
pub member_in : (s : Set) → is_none s ≡ false → has s (member s) ≡ true
unfolding is_none member
member_in s e = last_in 32 (has s) e

-- The laws of two of them as equations between tests.
pub has_none : has none ≡ (λ q. false)
has_none = λ i q. none_at q i

pub has_plus : (k : ℕ) (s : Set) → k < 32 → has (plus k s) ≡ (λ q. has s q || eqb q k)
has_plus k s lt = λ i q. (plus_at k s q ∙ ap (λ b. has s q || (b && eqb q k)) (lt-ltb k 32 lt)) i
