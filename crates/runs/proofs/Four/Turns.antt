-- The two turns of a station: their lines and their numbers.
use Rattle.std.proofs.Common.{◌≡◌, ℕ, ◌+◌, ◌*◌, ◌/◌, ◌<◌, Bool, true, false, cond, arith}
use Rattle.std.proofs.lemmas.Bool.Decides.{nat_tests}
use Rattle.boards.specs.Lines.{Line}
use Rattle.steps.specs.FourLine.{odd}
use Rattle.runs.specs.Runs.{Own}

-- The turn of side e.
abbrev pub turn : Bool → Own → Line
turn e o = cond e o.turn1 o.turn0

-- The turn of the side in use.
abbrev pub own_turn : Own → Line
own_turn o = turn o.rec.side o

-- The number of the turn of station q and side e.
unfoldable pub num : ℕ → Bool → ℕ
num q e = cond e (2 * q + 1) (2 * q)

-- The number tells the station and the side.

pub half : (q : ℕ) (e : Bool) → num q e / 2 ≡ q
unfolding num
half q true = omega arith
half q false = omega arith

pub side_of : (q : ℕ) (e : Bool) → odd (num q e) ≡ e
unfolding num odd
side_of q true = grind (arith, nat_tests)
side_of q false = grind (arith, nat_tests)

-- The turns of N stations have the numbers below 2N.
pub num_lt : (q N : ℕ) (e : Bool) → q < N → num q e < 2 * N
unfolding num
num_lt q N true h = omega arith
num_lt q N false h = omega arith

-- Every number is that of a turn.
pub num_of : (k : ℕ) → num (k / 2) (odd k) ≡ k
unfolding num odd
num_of k = grind (arith, nat_tests)
