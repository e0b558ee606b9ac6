-- The letters of a schedule, by their numbers in ASCII.
use Rattle.std.specs.Prelude.{ℕ, cond, Some, None, Ok, Err, Option, Result, ◌==◌}
use Rattle.schedule.specs.declared.event.Event.{Event}
use Rattle.schedule.specs.declared.event.Event.TheVariants.{Start, Go, Stir, Fail, Leave}
use Rattle.schedule.specs.declared.discipline.DisciplineKind.{DisciplineKind}
use Rattle.schedule.specs.declared.discipline.DisciplineKind.TheVariants.{FourLine, Plain}
use Rattle.schedule.specs.declared.refusal.Refusal.{Refusal}
use Rattle.schedule.specs.declared.refusal.Refusal.TheVariants.{UnknownDiscipline}

-- A and B
abbrev pub discipline_letter : DisciplineKind → ℕ
discipline_letter FourLine = 65
discipline_letter Plain = 66

-- The discipline that has the letter, where one does.
abbrev pub discipline_of : ℕ → Result DisciplineKind Refusal
discipline_of letter =
    cond (letter == discipline_letter FourLine) (Ok FourLine)
    (cond (letter == discipline_letter Plain) (Ok Plain) (Err UnknownDiscipline))

-- S, G, W, F and L
abbrev pub letter_of : Event → ℕ
letter_of (Start station) = 83
letter_of (Go station pick) = 71
letter_of (Stir station) = 87
letter_of (Fail station) = 70
letter_of (Leave station) = 76

abbrev pub station_of : Event → ℕ
station_of (Start station) = station
station_of (Go station pick) = station
station_of (Stir station) = station
station_of (Fail station) = station
station_of (Leave station) = station

-- Only a go has a pick.
abbrev pub pick_of : Event → ℕ
pick_of (Start station) = 0
pick_of (Go station pick) = pick
pick_of (Stir station) = 0
pick_of (Fail station) = 0
pick_of (Leave station) = 0

-- The event that has the letter, with its two operands.
abbrev pub event_of : ℕ → ℕ → ℕ → Option Event
event_of letter station pick =
    cond (letter == letter_of (Start station)) (Some (Start station))
    (cond (letter == letter_of (Go station pick)) (Some (Go station pick))
    (cond (letter == letter_of (Stir station)) (Some (Stir station))
    (cond (letter == letter_of (Fail station)) (Some (Fail station))
    (cond (letter == letter_of (Leave station)) (Some (Leave station)) None))))
