-- A byte has no bit from the eighth on.
use Rattle.std.proofs.Common.{◌≡◌, ℕ, ◌/◌, ◌^◌, ◌<◌, ◌≤◌, cond, ltb, ⊎_elim, arith, le-ltb, lt-ltb}
use Rattle.std.proofs.lemmas.Bool.{cases_lt}
use native.Mathlib.Nat.{pow-le-pow_right, div-eq_of_lt}
use Rattle.boards.proofs.tape.Noise.next_bit.Goals as goal

shifted : (n k : ℕ) → n < 256 → cond (ltb k 8) (n / 2 ^ k) 0 ≡ n / 2 ^ k
shifted n k h =
    ⊎_elim (λ (a : k < 8). rw (lt-ltb _ _ a))
    (λ (a : 8 ≤ k). let wide = pow-le-pow_right {n = 2} (omega arith) a in let small : n < 2 ^ k = omega arith in rw (le-ltb _ _ a, div-eq_of_lt small))
    (cases_lt k 8)

pub returns : goal.returns
returns c = let s = shifted c.unwrap_or-byte.result c.args.self.now.bit c.unwrap_or-byte.type_inv in grind (arith, s)
