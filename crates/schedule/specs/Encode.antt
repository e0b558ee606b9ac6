-- A plan as the bytes of a schedule, and what reading them back gives.
use Rattle.std.specs.Prelude.{◌≡◌, ℕ, ◌+◌, ◌*◌, ◌/◌, ◌%◌, ◌≤◌, List, [], ◌∷◌, ◌++◌, length, Ok, Result}
use Rattle.schedule.specs.declared.event.Event.{Event}
use Rattle.schedule.specs.declared.refusal.Refusal.{Refusal}
use Rattle.schedule.specs.Limits.{longest, most_events, most_stations}
use Rattle.schedule.specs.Letters.{discipline_letter, letter_of, station_of, pick_of}
use Rattle.schedule.specs.Decode.{Plan}

abbrev pub letters : List Event → List ℕ
letters [] = []
letters (e ∷ es) = letter_of e ∷ letters es

abbrev pub operands : List Event → List ℕ
operands [] = []
operands (e ∷ es) = station_of e ∷ pick_of e ∷ operands es

abbrev pub encode : Plan → List ℕ
encode p = discipline_letter p.discipline ∷ p.stations ∷ length p.events / 256 ∷ length p.events % 256 ∷ (letters p.events ++ (operands p.events ++ p.noise))

-- A plan within all limits.
pub record Fits (p : Plan) : Type 0 where
  pub some_station : 1 ≤ p.stations
  pub few_stations : p.stations ≤ most_stations
  pub few_events : length p.events ≤ most_events
  pub short : 4 + 3 * length p.events + length p.noise ≤ longest

-- Bytes that a plan is written as, read as r: that plan.
abbrev pub ReadsBack : List ℕ → Result Plan Refusal → Type 0
ReadsBack bytes r = (p : Plan) → Fits p → bytes ≡ encode p → r ≡ Ok p
