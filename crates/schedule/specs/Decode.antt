-- What bytes mean as a schedule. The refusals are tried in the order in which they stand here.
use Rattle.std.specs.Prelude.{ℕ, ◌+◌, ◌*◌, cond, List, [], ◌∷◌, length, take, drop, Some, None, Ok, Err, Option, Result, ◌==◌, nat_lt}
use Rattle.schedule.specs.declared.event.Event.{Event}
use Rattle.schedule.specs.declared.discipline.DisciplineKind.{DisciplineKind}
use Rattle.schedule.specs.declared.refusal.Refusal.{Refusal}
use Rattle.schedule.specs.declared.refusal.Refusal.TheVariants.{TooLong, NoHeader, TooManyEvents, EventsCutShort, BadStationCount, UnknownEvent}
use Rattle.schedule.specs.Limits.{longest, most_events, most_stations}
use Rattle.schedule.specs.Letters.{discipline_of}
use Rattle.schedule.specs.Events.{events_of, first_unknown}

-- What a schedule tells.
pub record Plan : Type 0 where
  pub discipline : DisciplineKind
  pub stations : ℕ
  pub events : List Event
  pub noise : List ℕ

-- The plan of e events in the bytes behind the header: e letters, e pairs of operands, noise.
abbrev pub plan_in : DisciplineKind → ℕ → ℕ → List ℕ → Plan
plan_in d n e rest = record {
  discipline = d;
  stations = n;
  events = events_of (take e rest) (take (2 * e) (drop e rest));
  noise = drop (3 * e) rest;
}

abbrev pub with_letters : Option ℕ → Plan → Result Plan Refusal
with_letters None p = Ok p
with_letters (Some index) p = Err (UnknownEvent index)

-- With what the first byte means, n stations and e events.
abbrev pub with_body : Result DisciplineKind Refusal → ℕ → ℕ → List ℕ → Result Plan Refusal
with_body (Err refusal) n e rest = Err refusal
with_body (Ok d) n e rest =
    cond (nat_lt most_events e) (Err TooManyEvents)
    (cond (nat_lt (length rest) (3 * e)) (Err EventsCutShort)
    (cond (n == 0) (Err BadStationCount)
    (cond (nat_lt most_stations n) (Err BadStationCount)
    (with_letters (first_unknown (take e rest)) (plan_in d n e rest)))))

-- Four bytes: the discipline's letter, the number of stations, and that of events with the high byte first.
abbrev pub with_header : List ℕ → Result Plan Refusal
with_header [] = Err NoHeader
with_header (a ∷ []) = Err NoHeader
with_header (a ∷ b ∷ []) = Err NoHeader
with_header (a ∷ b ∷ c ∷ []) = Err NoHeader
with_header (letter ∷ n ∷ high ∷ low ∷ rest) = with_body (discipline_of letter) n (256 * high + low) rest

abbrev pub decode : List ℕ → Result Plan Refusal
decode bytes = cond (nat_lt longest (length bytes)) (Err TooLong) (with_header bytes)
