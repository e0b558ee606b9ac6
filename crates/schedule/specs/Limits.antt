-- How long a schedule may be, and how many events and stations it may have.
use Rattle.std.specs.Prelude.{ℕ}

-- in bytes
abbrev pub longest : ℕ
longest = 60000

abbrev pub most_events : ℕ
most_events = 16384

abbrev pub most_stations : ℕ
most_stations = 16
