-- One bit set and one bit cleared, against the exclusive or that the definitions have.
use Rattle.std.proofs.Common.{◌≡◌, ℕ, ◌-◌, ◌*◌, ◌^◌, ◌<◌, ◌≤◌, ◌%◌, true, false, cond, eqb, bit_xor, bit_or, bit_and, ap, ◌∙◌, rules, arith}
use Rattle.std.specs.Int.{bit_at}
use Rattle.std.specs.Int.Bits.{or_add_and, xor_add_and}
use Rattle.std.proofs.lemmas.Bool.{cond_both, eqb-true}
use Rattle.std.proofs.lemmas.Bool.Decides.{nat_tests}
use Rattle.std.proofs.lemmas.Nat.{and-not, and_comm}
use Rattle.std.proofs.lemmas.Nat.Bits.{and_pow, bit_at-lt}
use Rattle.sets.specs.declared.Set.{Set}
use Rattle.sets.specs.Sets.{of_bits, has, plus, without}

or_pow : (n k : ℕ) → bit_or n (2 ^ k) ≡ cond (eqb (bit_at n k) 1) n (bit_xor n (2 ^ k))
or_pow n k =
    let o = or_add_and n (2 ^ k) in let x = xor_add_and n (2 ^ k) in let l = bit_at-lt n k in
    cond_both (eqb (bit_at n k) 1) n (bit_xor n (2 ^ k)) (λ y. bit_or n (2 ^ k) ≡ y)
    (λ e. let z : bit_and n (2 ^ k) ≡ 1 * 2 ^ k = and_pow n k ∙ ap (λ v. v * 2 ^ k) (eqb-true (bit_at n k) 1 e) in omega (arith, z, o))
    (λ e. let b : bit_at n k ≡ 0 = grind (arith, nat_tests) in let z : bit_and n (2 ^ k) ≡ 0 * 2 ^ k = and_pow n k ∙ ap (λ v. v * 2 ^ k) b in omega (arith, z, o, x))

off_pow : (n k : ℕ) → n < 2 ^ 32 → 2 ^ k < 2 ^ 32 → bit_and n (4294967295 - 2 ^ k) ≡ cond (eqb (bit_at n k) 1) (bit_xor n (2 ^ k)) n
off_pow n k h h' =
    let o = and-not 32 (2 ^ k) n h' h in let x = xor_add_and n (2 ^ k) in let l = bit_at-lt n k in
    let s = and_comm (2 ^ k) n in let s' = and_comm (4294967295 - 2 ^ k) n in
    cond_both (eqb (bit_at n k) 1) (bit_xor n (2 ^ k)) n (λ y. bit_and n (4294967295 - 2 ^ k) ≡ y)
    (λ e. let z : bit_and n (2 ^ k) ≡ 1 * 2 ^ k = and_pow n k ∙ ap (λ v. v * 2 ^ k) (eqb-true (bit_at n k) 1 e) in omega (arith, z, o, x, s, s'))
    (λ e. let b : bit_at n k ≡ 0 = grind (arith, nat_tests) in let z : bit_and n (2 ^ k) ≡ 0 * 2 ^ k = and_pow n k ∙ ap (λ v. v * 2 ^ k) b in omega (arith, z, o, s, s'))

-- So the code takes a number in, and takes it out.
pub taken_in : (s : Set) (k : ℕ) → k < 32 → of_bits (bit_or s.bits (1 * 2 ^ k % 4294967296)) ≡ plus k s
unfolding plus has
taken_in s k l = let o = or_pow s.bits k in search (rules, o)

pub taken_out : (s : Set) (k : ℕ) → s.bits < 2 ^ 32 → k < 32 → of_bits (bit_and s.bits (4294967295 - 1 * 2 ^ k % 4294967296)) ≡ without k s
unfolding without has
taken_out s k h l = let p : 2 ^ k < 2 ^ 32 = search rules in let o = off_pow s.bits k h p in search (rules, o)

-- A member is in already, and a number that is none is out; of others the bit is turned over.
pub stays_in : (s : Set) (k : ℕ) → has s k ≡ true → s ≡ plus k s
unfolding plus
stays_in s k e = search (rules, e)

pub stays_out : (s : Set) (k : ℕ) → has s k ≡ false → s ≡ without k s
unfolding without
stays_out s k e = search (rules, e)

pub turned_in : (s : Set) (k : ℕ) → has s k ≡ false → k < 32 → of_bits (bit_xor s.bits (1 * 2 ^ k % 4294967296)) ≡ plus k s
unfolding plus
turned_in s k e l = search (rules, e)

pub turned_out : (s : Set) (k : ℕ) → has s k ≡ true → k < 32 → of_bits (bit_xor s.bits (1 * 2 ^ k % 4294967296)) ≡ without k s
unfolding without
turned_out s k e l = search (rules, e)

-- A number from 32 on is no member, and is neither taken in nor out.
pub not_in : (s : Set) (k : ℕ) → 32 ≤ k → s ≡ plus k s
unfolding plus has
not_in s k l = search rules

pub not_out : (s : Set) (k : ℕ) → 32 ≤ k → s ≡ without k s
unfolding without has
not_out s k l = search rules

pub ruleset taking_in = (taken_in, stays_in, turned_in, not_in)

pub ruleset taking_out = (taken_out, stays_out, turned_out, not_out)
