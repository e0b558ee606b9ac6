-- One way for station 0 of two to come to 25.
use Rattle.std.proofs.Common.{ℕ, List, [], ◌∷◌, refl}
use Rattle.steps.specs.FourLine.{view, odd}
use Rattle.sets.specs.Sets.{has, nowhere, is_none, none, first, plus, without, above}
use Rattle.worked.specs.Worked.{four_line_junction}
use Rattle.worked.specs.Behind.{At25}

-- The four turns are read at 23 by the picks 0 to 3; the other goes look at no pick.
abbrev picks : List ℕ
picks = 0 ∷ 0 ∷ 3 ∷ 2 ∷ 1 ∷ 0 ∷ 0 ∷ []

pub comes_to_25 : (name : ℕ) → (picks : List ℕ) × At25 (four_line_junction 2 name) picks
unfolding view odd has nowhere is_none none first plus without above
comes_to_25 name = (picks, ((refl, (refl, (refl, (refl, (refl, (refl, (refl, refl))))))), refl))
