-- The bytes of the lines of a report.
use Rattle.std.specs.Prelude.{ℕ, List, [], ◌∷◌, ◌++◌}
use Rattle.report.specs.Digits.{padded}

abbrev pub space : ℕ
space = 32

abbrev pub line_feed : ℕ
line_feed = 10

abbrev pub event_line : ℕ → ℕ → ℕ → ℕ → List ℕ
event_line letter station place answer = letter ∷ space ∷ (padded 3 station ++ (space ∷ (padded 2 place ++ (space ∷ (padded 2 answer ++ (line_feed ∷ []))))))

-- 69 is the letter E.
abbrev pub end_line : ℕ → ℕ → ℕ → List ℕ
end_line grants ends rounds = 69 ∷ space ∷ (padded 5 grants ++ (space ∷ (padded 5 ends ++ (space ∷ (padded 5 rounds ++ (line_feed ∷ []))))))

-- 82 is the letter R.
abbrev pub refusal_line : ℕ → ℕ → List ℕ
refusal_line number index = 82 ∷ space ∷ (padded 2 number ++ (space ∷ (padded 5 index ++ (line_feed ∷ []))))
