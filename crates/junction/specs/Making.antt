-- Making a junction: what is refused, and what is made.
use Rattle.std.specs.Prelude.{ℕ, ◌*◌, min, cond, ◌&&◌, List, replicate, Ok, Err, Result, nat_le, codes}
use Rattle.std.proofs.Common.{arith}
use Rattle.numbers.specs.Numbers.{number_of}
use Rattle.boards.specs.Lines.{Meaning}
use Rattle.steps.specs.declared.size.Size.{Size}
use Rattle.steps.specs.Table.{Table}
use Rattle.runs.specs.Runs.{most_stations}
use Rattle.junction.specs.declared.making.Unfit.{Unfit}
use Rattle.junction.specs.declared.making.Unfit.TheVariants.{Stations, Lines}
use Rattle.junction.specs.declared.state.Junction.{Junction}
use Rattle.junction.specs.Stations.{new_station}
use Rattle.junction.specs.Counts.{new_counts}
use Rattle.junction.specs.Wires.{lowered}

abbrev pub unfit_number : Unfit → ℕ
unfit_number Stations = 1
unfit_number Lines = 2

abbrev pub unfit_text : Unfit → List ℕ
unfit_text Stations = codes "no station, or more than 16"
unfit_text Lines = codes "too few lines on the board"

-- What a check answers, as a number: 0 where there can be a junction.
abbrev pub check_number : Result (Unit {0}) Unfit → ℕ
check_number = number_of (λ done. 0) unfit_number

-- The lines of n stations over b, or why there can be no junction of them.
abbrev pub room_for : {B : Type 0} → Table → Meaning B → ℕ → B → Result ℕ Unfit
room_for t m n b = cond (nat_le 1 n && nat_le n most_stations) (cond (nat_le (n * t.per) (m.count b)) (Ok (n * t.per)) (Err Lines)) (Err Stations)

abbrev pub forgetting : Result ℕ Unfit → Result (Unit {0}) Unfit
forgetting (Ok lines) = Ok tt
forgetting (Err e) = Err e

abbrev pub check_answers : {B : Type 0} → Table → Meaning B → ℕ → B → Result (Unit {0}) Unfit
check_answers t m n b = forgetting (room_for t m n b)

abbrev pub stations_made : ℕ → Result ℕ Unfit → ℕ
stations_made n (Ok lines) = n
stations_made n (Err e) = 0

abbrev pub board_made : {B : Type 0} → Meaning B → B → Result ℕ Unfit → B
board_made m b (Ok lines) = lowered m b lines
board_made m b (Err e) = b

-- The size of a junction of n stations; the rules make none of more than sixteen.
abbrev pub sized : ℕ → Size
sized n = record { stations = min n most_stations; few = omega arith }

-- A junction as made: what is refused has no stations, and its board is as it was.
abbrev pub new_junction : {D B : Type 0} → Table → Meaning B → D → ℕ → ℕ → B → Junction D B
new_junction t m d n name b = record {
  discipline = d;
  size = sized (stations_made n (room_for t m n b));
  name = name;
  stations = record { at = replicate 16 new_station };
  counts = new_counts;
  board = board_made m b (room_for t m n b);
}
