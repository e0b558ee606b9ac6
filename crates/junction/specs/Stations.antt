-- The table of the stations: sixteen, of which the first ones are there.
use Rattle.std.specs.Prelude.{ℕ, Bool, true, false, cond, ◌&&◌, ◌==◌, slice_index_or, slice_set}
use Rattle.steps.specs.declared.record.Record.{Record}
use Rattle.steps.specs.Rows.{merge_place, new_record}
use Rattle.junction.specs.declared.stations.Station.{Station}
use Rattle.junction.specs.declared.stations.Stations.{Stations}
use Rattle.junction.specs.Counts.{more_if}

-- What the library's look-up gives past the last station; no slot leads there.
abbrev pub blank : Station
blank = record { rec = record { place = 0; side = false; kept = 0; left = record { bits = 0 }; copy = record { bits = 0 } }; arrivals = 0; taken = false }

abbrev pub station_of : Stations → ℕ → Station
station_of s p = slice_index_or s.at p blank

abbrev pub with_station : Stations → ℕ → Station → Stations
with_station s p x = record { at = slice_set s.at p x }

abbrev pub new_station : Station
new_station = record { rec = new_record; arrivals = 0; taken = false }

-- Another record, and nothing else.
abbrev pub at_record : Record → Station → Station
at_record r x = record x { rec = r }

-- By a go: an arrival on the merge is counted, and its pass is yet to be taken.
abbrev pub arrived : Record → Station → Station
arrived r x = record { rec = r; arrivals = more_if (r.place == merge_place) x.arrivals; taken = cond (r.place == merge_place) false x.taken }

abbrev pub pass_taken : Station → Station
pass_taken x = record x { taken = true }

-- Whether a station stands on the merge since its arrival of that number.
abbrev pub is_since : ℕ → Station → Bool
is_since arrival x = x.rec.place == merge_place && arrival == x.arrivals
