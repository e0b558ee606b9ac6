-- The plain discipline as a step table: one line, the claim, for each station, and nothing but the contest.
use Rattle.std.specs.Prelude.{ℕ, Bool, false, cond, Some, None, Option, ◌==◌, nat_lt}
use Rattle.std.specs.Option.{option_map_or}
use Rattle.steps.specs.declared.record.Record.{Record}
use Rattle.steps.specs.declared.lines.Part.{Part}
use Rattle.steps.specs.declared.lines.Part.TheVariants.{Door, Claim, Turn}
use Rattle.steps.specs.declared.lines.Flag.{Flag}
use Rattle.steps.specs.declared.go.Go.{Go}
use Rattle.steps.specs.declared.go.Go.TheVariants.{Idle as Idles, MustLeave, Settles}
use Rattle.steps.specs.declared.contest.Contest.TheVariants.{RaiseClaim}
use Rattle.steps.specs.declared.plain.PlainPlace.{PlainPlace}
use Rattle.steps.specs.declared.plain.PlainPlace.TheVariants.{Idle, Contest, Merging, Failed}
use Rattle.sets.specs.Sets.{none}
use Rattle.steps.specs.Rows.{idle_place, merge_place, failed_place, to_number, leaving, copying}
use Rattle.steps.specs.Contest as contest
use Rattle.steps.specs.Table.{Table}

abbrev pub label : PlainPlace → ℕ
label Idle = idle_place
label (Contest x) = contest.label x
label Merging = merge_place
label Failed = failed_place

-- The place of a number; a number that is no place stands for the idle one. Arguments look into it only where they say so.
unfoldable pub view : ℕ → PlainPlace
view n = cond (n == 37) Merging (cond (n == 39) Failed (option_map_or Contest (contest.place_of n) Idle))

-- The line that a go reads.
abbrev pub looks : PlainPlace → Record → ℕ → Option Flag
looks Idle s k = None
looks (Contest x) s k = contest.looks x s k
looks Merging s k = None
looks Failed s k = None

-- What a go does: of N stations, of station p, with this record, pick and reading.
abbrev pub goes : PlainPlace → ℕ → ℕ → Record → ℕ → Bool → Go
goes Idle N p s k high = Idles
goes (Contest x) N p s k high = contest.goes x merge_place N p s k high
goes Merging N p s k high = MustLeave
goes Failed N p s k high = Settles Claim false (to_number idle_place s)

-- Where a line is on the board: the claim of station p is line p, and there are no other lines.
abbrev pub number : ℕ → ℕ → Part → Option ℕ
number N q Door = None
number N q Claim = cond (nat_lt q N) (Some q) None
number N q (Turn e) = None

abbrev pub plain : Table
plain = record {
  per = 1;
  number = λ N x. number N x.station x.part;
  grant = merge_place;
  starts = λ N s. contest.to RaiseClaim (leaving none (copying none s));
  looks = λ N p s k. looks (view s.place) s k;
  goes = λ N p s k high. goes (view s.place) N p s k high;
}
