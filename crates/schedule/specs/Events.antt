-- The events of letters and operands.
use Rattle.std.specs.Prelude.{ℕ, List, [], ◌∷◌, ◌++◌, drop, is_none, Option, position, slice_index}
use Rattle.std.specs.Option.{option_to_list}
use Rattle.schedule.specs.declared.event.Event.{Event}
use Rattle.schedule.specs.Letters.{event_of}

-- The index of the first letter that no event has.
abbrev pub first_unknown : List ℕ → Option ℕ
first_unknown letters = position (λ letter. is_none (event_of letter 0 0)) letters

-- One event for each letter, with two operands each: station and pick.
abbrev pub events_of : List ℕ → List ℕ → List Event
events_of [] operands = []
events_of (letter ∷ letters) operands = option_to_list (event_of letter (slice_index operands 0) (slice_index operands 1)) ++ events_of letters (drop 2 operands)
