-- The number of an answer, from those of what was done and of what refuses.
use Rattle.std.specs.Prelude.{ℕ, Ok, Err, Result}

abbrev pub number_of : {T E : Type 0} → (T → ℕ) → (E → ℕ) → Result T E → ℕ
number_of done refused (Ok x) = done x
number_of done refused (Err e) = refused e
