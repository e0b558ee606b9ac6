-- What a discipline means: its step table.
use Rattle.std.specs.Prelude.{ℕ, Bool, Option}
use Rattle.steps.specs.declared.record.Record.{Record}
use Rattle.steps.specs.declared.lines.Flag.{Flag}
use Rattle.steps.specs.declared.go.Go.{Go}

pub record Table : Type 0 where
  -- lines of a station
  pub per : ℕ
  -- of N stations: where the line of that name is on the board, if stations have such a line
  pub number : ℕ → Flag → Option ℕ
  -- a hold is granted by the go that arrives at this place, and lasts to 37
  pub grant : ℕ
  -- of N stations: the record after a start
  pub starts : ℕ → Record → Record
  -- of N stations, station p with this record, and this pick: the line that its go reads
  pub looks : ℕ → ℕ → Record → ℕ → Option Flag
  -- the same, and the reading: what its go does
  pub goes : ℕ → ℕ → Record → ℕ → Bool → Go
