-- The numbers of refusals.
use Rattle.std.specs.Prelude.{ℕ, List, ◌++◌, codes, decimal}
use Rattle.schedule.specs.declared.refusal.Refusal.{Refusal}
use Rattle.schedule.specs.declared.refusal.Refusal.TheVariants.{TooLong, NoHeader, UnknownDiscipline, TooManyEvents, EventsCutShort, BadStationCount, UnknownEvent}

abbrev pub number_of : Refusal → ℕ
number_of TooLong = 25
number_of NoHeader = 20
number_of UnknownDiscipline = 21
number_of TooManyEvents = 22
number_of EventsCutShort = 23
number_of BadStationCount = 1
number_of (UnknownEvent index) = 24

-- Only an unknown event has an index.
abbrev pub index_of : Refusal → ℕ
index_of TooLong = 0
index_of NoHeader = 0
index_of UnknownDiscipline = 0
index_of TooManyEvents = 0
index_of EventsCutShort = 0
index_of BadStationCount = 0
index_of (UnknownEvent index) = index

-- What is printed of a refusal.
abbrev pub text_of : Refusal → List ℕ
text_of TooLong = codes "over 60,000 bytes"
text_of NoHeader = codes "under 4 bytes"
text_of UnknownDiscipline = codes "the discipline letter is neither A nor B"
text_of TooManyEvents = codes "more than 16,384 events"
text_of EventsCutShort = codes "fewer bytes than the events need"
text_of BadStationCount = codes "no station, or more than 16"
text_of (UnknownEvent index) = codes "unknown event letter at index " ++ decimal index
