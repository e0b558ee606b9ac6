-- Decimal digits as bytes.
use Rattle.std.specs.Prelude.{ℕ, zero, suc, ◌+◌, ◌-◌, ◌*◌, ◌/◌, ◌%◌, List, [], ◌∷◌, ◌++◌, take, drop}

-- The byte of the digit 0 in ASCII; the other digits follow it.
abbrev pub zero_digit : ℕ
zero_digit = 48

-- The last `width` decimal digits of n.
abbrev pub padded : ℕ → ℕ → List ℕ
padded zero n = []
padded (suc width) n = padded width (n / 10) ++ ((zero_digit + n % 10) ∷ [])

-- The number that digits read as, behind digits that read as n.
abbrev pub reads : ℕ → List ℕ → ℕ
reads n [] = n
reads n (d ∷ ds) = reads (10 * n + (d - zero_digit)) ds

-- The number that stands in a line, from a byte on, in so many digits.
abbrev pub number_at : List ℕ → ℕ → ℕ → ℕ
number_at line from width = reads 0 (take width (drop from line))
