-- What each call answers and leaves, from the junction at entry, the discipline's table and the board's meaning.
use Rattle.std.specs.Prelude.{◌≡◌, ℕ, Bool, true, false, cond, not, ◌&&◌, Some, None, Ok, Err, Option, Result, ◌==◌, nat_lt}
use Rattle.boards.specs.Lines.{Meaning}
use Rattle.steps.specs.declared.record.Record.{Record}
use Rattle.steps.specs.declared.lines.Flag.{Flag}
use Rattle.steps.specs.declared.step.Step.{Step}
use Rattle.steps.specs.declared.go.Go.{Go}
use Rattle.steps.specs.declared.go.Go.TheVariants.{Idle, Waits, WrongPick, MustLeave, Moves, Settles}
use Rattle.steps.specs.declared.answers.Outcome.{Outcome}
use Rattle.steps.specs.declared.answers.Outcome.TheVariants as out
use Rattle.steps.specs.declared.answers.Refusal.{Refusal}
use Rattle.steps.specs.declared.answers.Refusal.TheVariants as ref
use Rattle.steps.specs.Rows.{idle_place, merge_place, release_place, failed_place, failed, to_number, flag}
use Rattle.steps.specs.Table.{Table}
use Rattle.runs.specs.Runs as runs
use Rattle.runs.specs.Runs.{limit, holds, settles_some}
use Rattle.junction.specs.declared.stations.Station.{Station}
use Rattle.junction.specs.declared.stations.Slot.{Slot}
use Rattle.junction.specs.declared.counts.Note.{Note}
use Rattle.junction.specs.declared.pass.Pass.{Pass}
use Rattle.junction.specs.declared.state.Junction.{Junction}
use Rattle.junction.specs.Stations.{station_of, with_station, at_record, arrived, pass_taken, is_since}
use Rattle.junction.specs.Counts.{noted, by_start, by_go, by_fail, by_leave}
use Rattle.junction.specs.Wires.{hears, heard, settled_on, stirred_board}

module _ {D B : Type 0} where
  abbrev pub with_board : Junction D B → B → Junction D B
  with_board j b = record j { board = b }

  -- A call of station p is counted.
  abbrev pub counting : Junction D B → ℕ → Note → Junction D B
  counting j p k = record j { counts = noted k j.size.stations p j.counts }

  -- Station p becomes x.
  abbrev pub putting : Junction D B → ℕ → Station → Junction D B
  putting j p x = record j { stations = with_station j.stations p x }

  abbrev pub stepped : Junction D B → ℕ → Station → Note → Junction D B
  stepped j p x k = counting (putting j p x) p k

  abbrev pub station : Junction D B → ℕ → Station
  station j p = station_of j.stations p

  abbrev pub place : Junction D B → ℕ → ℕ
  place j p = (station j p).rec.place

  -- The step that a go of station p with the pick k asks for.
  abbrev pub asked : Junction D B → ℕ → ℕ → Step
  asked j p k = record { size = j.size; station = p; rec = (station j p).rec; pick = k }

  -- What refuses every call of station p.
  abbrev pub unknown : Junction D B → ℕ → Option Refusal
  unknown j p = cond (nat_lt p j.size.stations) None (Some ref.NoStation)

  -- What refuses a start, go, stir or fail before its place is looked at.
  abbrev pub refused_first : Junction D B → ℕ → Option Refusal
  refused_first j p = cond (nat_lt p j.size.stations) (cond (nat_lt j.counts.used limit) None (Some ref.Limit)) (Some ref.NoStation)

-- The slot of station p where nothing refuses, or else the refusal.
abbrev pub SlotOf : ℕ → Option Refusal → Result Slot Refusal → Type 0
SlotOf p o (Ok slot) = (slot.station ≡ p) × (o ≡ None)
SlotOf p o (Err e) = o ≡ Some e

-- One thing where nothing refuses, or else what is made of the refusal.
abbrev pub unless : {X : Type 0} → Option Refusal → (Refusal → X) → X → X
unless None refuse x = x
unless (Some e) refuse x = refuse e

abbrev pub answered : Go → Result Outcome Refusal
answered Idle = Ok out.Idle
answered Waits = Ok out.Waits
answered WrongPick = Err ref.WrongPick
answered MustLeave = Err ref.MustLeave
answered (Moves s) = Ok out.Accepted
answered (Settles x v s) = Ok out.Accepted

module _ {D B : Type 0} (t : Table) (m : Meaning B) where
  -- A start, go, stir or fail of station p: answered so, or leaving this, where neither the station's number nor the limit refuses it.
  abbrev pub allowed_answer : Junction D B → ℕ → Result Outcome Refusal → Result Outcome Refusal
  allowed_answer j p x = unless (refused_first j p) Err x

  abbrev pub allowed_leaves : Junction D B → ℕ → Junction D B → Junction D B
  allowed_leaves j p x = unless (refused_first j p) (λ _. j) x

  abbrev pub start_answers : Junction D B → ℕ → Result Outcome Refusal
  start_answers j p = allowed_answer j p (cond (place j p == idle_place) (Ok out.Accepted) (Err ref.NotIdle))

  abbrev pub start_leaves : Junction D B → ℕ → Junction D B
  start_leaves j p =
      allowed_leaves j p (cond (place j p == idle_place) (stepped j p (at_record (t.starts j.size.stations (station j p).rec) (station j p)) by_start) j)

  -- The line that a go looks at, and what it does after what it hears.
  abbrev pub look_of : Junction D B → ℕ → ℕ → Option Flag
  look_of j p k = t.looks j.size.stations p (station j p).rec k

  abbrev pub go_of : Junction D B → ℕ → ℕ → Go
  go_of j p k = t.goes j.size.stations p (station j p).rec k (hears t m j.size.stations j.board (look_of j p k))

  abbrev pub moved_to : Junction D B → ℕ → Record → Junction D B
  moved_to j p s = stepped j p (arrived s (station j p)) (by_go (s.place == t.grant))

  abbrev pub acted : Junction D B → ℕ → Go → Junction D B
  acted j p Idle = counting j p (by_go false)
  acted j p Waits = counting j p (by_go false)
  acted j p WrongPick = j
  acted j p MustLeave = j
  acted j p (Moves s) = moved_to j p s
  acted j p (Settles x v s) = moved_to (with_board j (settled_on t m j.size.stations j.board (flag p x) v)) p s

  abbrev pub go_answers : Junction D B → ℕ → ℕ → Result Outcome Refusal
  go_answers j p k = allowed_answer j p (answered (go_of j p k))

  abbrev pub go_leaves : Junction D B → ℕ → ℕ → Junction D B
  go_leaves j p k = allowed_leaves j p (acted (with_board j (heard t m j.size.stations j.board (look_of j p k))) p (go_of j p k))

  abbrev pub next_go : Junction D B → ℕ → Go
  next_go j p = runs.next_go t j.size.stations p (station j p).rec

  abbrev pub stir_answers : Junction D B → ℕ → Result Outcome Refusal
  stir_answers j p = allowed_answer j p (cond (settles_some (next_go j p)) (Ok out.Accepted) (Err ref.NothingToSettle))

  abbrev pub stir_leaves : Junction D B → ℕ → Junction D B
  stir_leaves j p =
      allowed_leaves j p
      (cond (settles_some (next_go j p)) (counting (with_board j (stirred_board t m j.size.stations p (place j p) (next_go j p) j.board)) p by_start) j)

  abbrev pub fail_answers : Junction D B → ℕ → Result Outcome Refusal
  fail_answers j p = allowed_answer j p (cond (place j p == failed_place) (Err ref.HasFailed) (Ok out.Accepted))

  abbrev pub fail_leaves : Junction D B → ℕ → Junction D B
  fail_leaves j p =
      allowed_leaves j p (cond (place j p == failed_place) j (stepped j p (at_record failed (station j p)) (by_fail (holds t (place j p)))))

  abbrev pub may_take : Junction D B → ℕ → Bool
  may_take j p = place j p == merge_place && not (station j p).taken

  abbrev pub take_answers : Junction D B → ℕ → Result Pass Refusal
  take_answers j p =
      cond (nat_lt p j.size.stations) (cond (may_take j p) (Ok (record { name = j.name; station = p; arrival = (station j p).arrivals })) (Err ref.NoPass)) (Err ref.NoStation)

  abbrev pub take_leaves : Junction D B → ℕ → Junction D B
  take_leaves j p = cond (nat_lt p j.size.stations) (cond (may_take j p) (putting j p (pass_taken (station j p))) j) j

-- A pass is current while its station stands on the merge since that arrival.
abbrev pub current : {D B : Type 0} → Junction D B → Pass → Bool
current j c = is_since c.arrival (station j c.station)

module _ {D B : Type 0} (t : Table) (m : Meaning B) where
  abbrev pub leave_answers : Junction D B → Pass → Result Outcome (Pass × Refusal)
  leave_answers j c =
      cond (nat_lt c.station j.size.stations) (cond (c.name == j.name && current j c) (Ok out.Accepted) (Err (c, ref.NotCurrent))) (Err (c, ref.NoStation))

  abbrev pub leave_leaves : Junction D B → Pass → Junction D B
  leave_leaves j c =
      cond (nat_lt c.station j.size.stations)
      (cond (c.name == j.name && current j c) (stepped j c.station (at_record (to_number release_place (station j c.station).rec) (station j c.station)) (by_leave (holds t (place j c.station)))) j)
      j

  abbrev pub void_answers : Junction D B → Pass → Result Outcome (Pass × Refusal)
  void_answers j c =
      cond (nat_lt c.station j.size.stations) (cond (c.name == j.name && not (current j c)) (Ok out.Accepted) (Err (c, ref.StillCurrent))) (Err (c, ref.NoStation))

  -- After a take: a pass is of the station asked for and current, and a leave with it is accepted.
  abbrev pub LeaveFollows : Junction D B → ℕ → Result Pass Refusal → Type 0
  LeaveFollows j p (Ok c) = (c.station ≡ p) × (current j c ≡ true) × (leave_answers j c ≡ Ok out.Accepted)
  LeaveFollows j p (Err e) = Unit {0}
