-- The stages of the decoder, where no refusal applies.
use Rattle.std.proofs.Common.{◌≡◌, ℕ, ◌+◌, ◌*◌, ◌≤◌, List, [], ◌∷◌, length, get_or, take, drop, None, Ok, arith}
use Rattle.schedule.specs.declared.discipline.DisciplineKind.{DisciplineKind}
use Rattle.schedule.specs.Limits.{longest, most_events, most_stations}
use Rattle.schedule.specs.Letters.{discipline_of}
use Rattle.schedule.specs.Events.{first_unknown}
use Rattle.schedule.specs.Decode.{plan_in, with_body, decode}

pub body_is : (d : DisciplineKind) (n e : ℕ) (rest : List ℕ) → e ≤ most_events → 3 * e ≤ length rest → (n ≡ 0 → ⊥) → n ≤ most_stations
    → first_unknown (take e rest) ≡ None
    → with_body (Ok d) n e rest ≡ Ok (plan_in d n e rest)
body_is d n e rest h1 h2 h3 h4 u = grind (arith, u)

pub decode_is : (bytes : List ℕ) → length bytes ≤ longest → 4 ≤ length bytes
    → decode bytes ≡ with_body (discipline_of (get_or bytes 0 0)) (get_or bytes 1 0) (256 * get_or bytes 2 0 + get_or bytes 3 0) (drop 4 bytes)
decode_is [] h k = grind arith
decode_is (a ∷ []) h k = grind arith
decode_is (a ∷ b ∷ []) h k = grind arith
decode_is (a ∷ b ∷ c ∷ []) h k = grind arith
decode_is (a ∷ b ∷ c ∷ d ∷ rest) h k = grind arith
