-- What the interface asks of every discipline, and of a fair one.
use Rattle.std.specs.Prelude.{◌≡◌, ℕ, ◌*◌, ◌<◌, ◌≤◌, Bool, true, ◌≢◌, List, Some, None, Option}
use Rattle.steps.specs.declared.record.Record.{Record}
use Rattle.steps.specs.declared.lines.Part.{Part}
use Rattle.steps.specs.declared.lines.Flag.{Flag}
use Rattle.steps.specs.declared.go.Go.TheVariants.{Settles}
use Rattle.steps.specs.Rows.{merge_place, flag}
use Rattle.steps.specs.Table.{Table}
use Rattle.runs.specs.Runs.{Event, run, refuses, limit, most_stations}
use Rattle.runs.specs.Words.{Holds, Busy, CanMove, Counted, Ahead}

-- A line that a go of one of N stations reads is on the board, where its station is there.
abbrev pub Numbered : Table → ℕ → Option Flag → Type 0
Numbered t N None = Unit {0}
Numbered t N (Some x) = x.station < N → (l : ℕ) × (t.number N x ≡ Some l)

-- Distinct lines have distinct numbers, and every number is below N times the lines per station.
pub record LinesApart (t : Table) : Type 0 where
  pub below : (N : ℕ) (x : Flag) (l : ℕ) → t.number N x ≡ Some l → l < N * t.per
  pub apart : (N : ℕ) (x y : Flag) (l : ℕ) → t.number N x ≡ Some l → t.number N y ≡ Some l → x ≡ y
  pub absent : (N : ℕ) (x : Flag) → N ≤ x.station → t.number N x ≡ None
  pub looks : (N p : ℕ) (s : Record) (k : ℕ) → Numbered t N (t.looks N p s k)

-- At most one station holds the merge; nobody does and grants equal ends, or somebody does and there is one grant more.
pub record OneHolder (t : Table) : Type 0 where
  pub merging : t.grant ≤ merge_place
  pub one : (N name : ℕ) (es : List Event) (p q : ℕ) → N ≤ most_stations → Holds t N name es p → Holds t N name es q → p ≡ q
  pub counted : (N name : ℕ) (es : List Event) → N ≤ most_stations → Counted t N name es

-- While some station is busy and the limit of calls is not reached, some busy station can move.
abbrev pub NeverStuck : Table → Type 0
NeverStuck t =
    (N name : ℕ) (es : List Event) (q : ℕ) → N ≤ most_stations → (run t N name es).used < limit → Busy t N name es q →
    (p : ℕ) × (p < N) × Busy t N name es p × CanMove t N name es p

-- No station holds the merge while another is ahead of it.
abbrev pub InOrder : Table → Type 0
InOrder t = (N name : ℕ) (es : List Event) (q r : ℕ) → N ≤ most_stations → r < N → q ≢ r → Holds t N name es q → Ahead t N name es q r → ⊥

-- What every run keeps, so that no odd case of the code comes up: in every run each station stands at a place of the discipline, and a go reads and settles only lines
-- that are on the board. (`again` is the number of the place of a number.)
pub record InRange (t : Table) (again : ℕ → ℕ) : Type 0 where
  pub places : (N name : ℕ) (es : List Event) (p : ℕ) → N ≤ most_stations → again ((run t N name es).own p).rec.place ≡ ((run t N name es).own p).rec.place
  pub reads : (N name : ℕ) (es : List Event) (p k : ℕ) (x : Flag) → N ≤ most_stations → p < N → t.looks N p ((run t N name es).own p).rec k ≡ Some x → (l : ℕ) × (t.number N x ≡ Some l)
  pub settles : (N p : ℕ) (s : Record) (k : ℕ) (high : Bool) (x : Part) (v : Bool) (s' : Record) → p < N → t.goes N p s k high ≡ Settles x v s' → (l : ℕ) × (t.number N (flag p x) ≡ Some l)
  -- a go that is refused reads no line
  pub unread : (N p : ℕ) (s : Record) (k : ℕ) (high : Bool) → refuses (t.goes N p s k high) ≡ true → t.looks N p s k ≡ None
