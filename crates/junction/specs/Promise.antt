-- The promise over whole runs: after any list of calls since a junction was made, it agrees with the history of these calls,
-- at most one station holds the merge, and the stations are never stuck; under a fair discipline the first come is first served.
use Rattle.std.specs.Prelude.{◌≡◌, ℕ, suc, ◌<◌, Bool, true, ◌≢◌, ◌⊎◌, List, [], ◌∷◌, Some, Ok, Err, Option, Result}
use Rattle.boards.specs.Lines.{Meaning}
use Rattle.steps.specs.declared.record.Record.{Record}
use Rattle.steps.specs.declared.lines.Part.{Part}
use Rattle.steps.specs.declared.lines.Flag.{Flag}
use Rattle.steps.specs.declared.go.Go.TheVariants.{Settles}
use Rattle.steps.specs.declared.answers.Outcome.{Outcome}
use Rattle.steps.specs.declared.answers.Outcome.TheVariants as out
use Rattle.steps.specs.declared.answers.Refusal.{Refusal}
use Rattle.steps.specs.Rows.{idle_place, flag}
use Rattle.sets.specs.Sets.{has}
use Rattle.steps.specs.Table.{Table}
use Rattle.runs.specs.Runs.{Event, start, stir, fail, take, go, leave, void, Ticket, Own, State, Reply, done, waits, idle, refused, reply, run, line, holds, limit}
use Rattle.runs.specs.Words.{CanMove, Ahead}
use Rattle.junction.specs.declared.stations.Station.{Station}
use Rattle.junction.specs.declared.pass.Pass.{Pass}
use Rattle.junction.specs.declared.state.Junction.{Junction}
use Rattle.junction.specs.Wires.{hears}
use Rattle.junction.specs.Calls.{station, place, look_of, go_of, start_answers, start_leaves, go_answers, go_leaves, stir_answers, stir_leaves, fail_answers, fail_leaves, take_answers, take_leaves, leave_answers, leave_leaves, void_answers}
use Rattle.junction.specs.Telling.{HolderIs}

-- A call that a junction may be asked. Holder and totals may stand between, and change nothing.
pub data Call : Type 0 where
  to_start to_stir to_fail to_take : ℕ → Call
  to_go : ℕ → ℕ → Call
  to_leave to_void : Pass → Call

abbrev pub ticket : Pass → Ticket
ticket c = record { name = c.name; station = c.station; arrival = c.arrival }

-- The station that a call names.
abbrev pub named : Call → ℕ
named (to_start p) = p
named (to_stir p) = p
named (to_fail p) = p
named (to_take p) = p
named (to_go p k) = p
named (to_leave c) = c.station
named (to_void c) = c.station

-- Answers alike: a pass that is given out or handed back is left aside.
abbrev pub taking : Result Pass Refusal → Result Outcome Refusal
taking (Ok c) = Ok out.Accepted
taking (Err e) = Err e

abbrev pub handing : Result Outcome (Pass × Refusal) → Result Outcome Refusal
handing (Ok o) = Ok o
handing (Err e) = Err e.1

abbrev pub replied : Reply → Result Outcome Refusal
replied (done o) = Ok out.Accepted
replied waits = Ok out.Waits
replied idle = Ok out.Idle
replied (refused e) = Err e

module _ {D B : Type 0} (t : Table) (m : Meaning B) where
  -- By the calls' own promises: what a call leaves, and what it answers.
  abbrev pub call_leaves : Junction D B → Call → Junction D B
  call_leaves j (to_start p) = start_leaves t m j p
  call_leaves j (to_stir p) = stir_leaves t m j p
  call_leaves j (to_fail p) = fail_leaves t m j p
  call_leaves j (to_take p) = take_leaves t m j p
  call_leaves j (to_go p k) = go_leaves t m j p k
  call_leaves j (to_leave c) = leave_leaves t m j c
  call_leaves j (to_void c) = j

  abbrev pub call_answers : Junction D B → Call → Result Outcome Refusal
  call_answers j (to_start p) = start_answers t m j p
  call_answers j (to_stir p) = stir_answers t m j p
  call_answers j (to_fail p) = fail_answers t m j p
  call_answers j (to_take p) = taking (take_answers t m j p)
  call_answers j (to_go p k) = go_answers t m j p k
  call_answers j (to_leave c) = handing (leave_answers t m j c)
  call_answers j (to_void c) = handing (void_answers t m j c)

  -- The junction after a list of calls, of which the newest stands first.
  abbrev pub after : Junction D B → List Call → Junction D B
  after j [] = j
  after j (c ∷ cs) = call_leaves (after j cs) c

  -- The call as histories know it: with what the board answered.
  abbrev pub event : Junction D B → Call → Event
  event j (to_start p) = start p
  event j (to_stir p) = stir p
  event j (to_fail p) = fail p
  event j (to_take p) = take p
  event j (to_go p k) = go p k (hears t m j.size.stations j.board (look_of t m j p k))
  event j (to_leave c) = leave (ticket c)
  event j (to_void c) = void (ticket c)

  abbrev pub history : Junction D B → List Call → List Event
  history j [] = []
  history j (c ∷ cs) = event (after j cs) c ∷ history j cs

  -- What follows from the calls and the board's answers.
  abbrev pub told : Junction D B → List Call → State
  told j cs = run t j.size.stations j.name (history j cs)

-- A station as a junction keeps it.
abbrev pub kept_of : Own → Station
kept_of o = record { rec = o.rec; arrivals = o.arrivals; taken = o.taken }

-- After these calls, all that the junction keeps and answers follows from the calls and the board's answers about loose lines.
pub record Agrees {D B : Type 0} (t : Table) (m : Meaning B) (j : Junction D B) (cs : List Call) : Type 0 where
  pub stations : (p : ℕ) → p < j.size.stations → station (after t m j cs) p ≡ kept_of ((told t m j cs).own p)
  pub lines : (p : ℕ) (x : Part) (l : ℕ) → t.number j.size.stations (flag p x) ≡ Some l → m.line (after t m j cs).board l ≡ line x ((told t m j cs).own p)
  pub used : (after t m j cs).counts.used ≡ (told t m j cs).used
  pub grants : (after t m j cs).counts.totals.grants ≡ (told t m j cs).grants
  pub ends : (after t m j cs).counts.totals.ends ≡ (told t m j cs).ends
  pub rounds : (after t m j cs).counts.totals.rounds ≡ (told t m j cs).rounds
  pub seen : (q : ℕ) → q < j.size.stations → has (after t m j cs).counts.seen q ≡ (told t m j cs).seen q
  -- the next call, whichever it is, is answered as follows from the calls so far
  pub answers : (c : Call) → call_answers t m (after t m j cs) c ≡ replied (reply t j.size.stations j.name (told t m j cs) (event t m (after t m j cs) c))

module _ {D B : Type 0} (t : Table) (m : Meaning B) (j : Junction D B) (cs : List Call) where
  -- Station p holds the merge after these calls.
  abbrev pub Holding : ℕ → Type 0
  Holding p = (p < j.size.stations) × (holds t (place (after t m j cs) p) ≡ true)

  -- Station p is not idle after these calls.
  abbrev pub Working : ℕ → Type 0
  Working p = (p < j.size.stations) × (place (after t m j cs) p ≢ idle_place)

-- The next call on one station leaves every other station, and every line of it, as they were.
pub record OthersStay {D B : Type 0} (t : Table) (m : Meaning B) (j : Junction D B) (cs : List Call) : Type 0 where
  pub stations : (c : Call) (q : ℕ) → q ≢ named c → station (call_leaves t m (after t m j cs) c) q ≡ station (after t m j cs) q
  pub lines : (c : Call) (q : ℕ) (x : Part) (l : ℕ) → q ≢ named c → t.number j.size.stations (flag q x) ≡ Some l → m.line (call_leaves t m (after t m j cs) c).board l ≡ m.line (after t m j cs).board l

-- The lines of the stations are on the board, and so is each line that the next go of a station reads or settles: no call that the
-- junction makes on its board is refused.
pub record BoardServes {D B : Type 0} (t : Table) (m : Meaning B) (j : Junction D B) (cs : List Call) : Type 0 where
  pub room : (x : Flag) (l : ℕ) → t.number j.size.stations x ≡ Some l → l < m.count (after t m j cs).board
  pub reads : (p k : ℕ) (x : Flag) → p < j.size.stations → look_of t m (after t m j cs) p k ≡ Some x → (l : ℕ) × (t.number j.size.stations x ≡ Some l)
  pub settles : (p k : ℕ) (x : Part) (v : Bool) (s : Record) → p < j.size.stations → go_of t m (after t m j cs) p k ≡ Settles x v s → (l : ℕ) × (t.number j.size.stations (flag p x) ≡ Some l)

-- What every junction keeps, after any list of calls since it was made.
pub record SafeMerge {D B : Type 0} (t : Table) (m : Meaning B) (j : Junction D B) (cs : List Call) : Type 0 where
  pub agrees : Agrees t m j cs
  -- at most one station holds the merge
  pub one_holder : (p q : ℕ) → Holding t m j cs p → Holding t m j cs q → p ≡ q
  -- nobody holds it, and as many holds have ended as were granted; or somebody does, and one more was granted
  pub counted : (((p : ℕ) → Holding t m j cs p → ⊥) × ((after t m j cs).counts.totals.grants ≡ (after t m j cs).counts.totals.ends)) ⊎ ((p : ℕ) × Holding t m j cs p × ((after t m j cs).counts.totals.grants ≡ suc (after t m j cs).counts.totals.ends))
  -- while a station is not idle and the limit of calls is not reached, a station that is not idle can move
  pub never_stuck : (q : ℕ) → Working t m j cs q → (after t m j cs).counts.used < limit → (p : ℕ) × Working t m j cs p × CanMove t j.size.stations j.name (history t m j cs) p
  -- holder names the only station that holds the merge
  pub holder : (r : Option ℕ) → HolderIs t (after t m j cs) r → (p : ℕ) → Holding t m j cs p → r ≡ Some p
  -- a refused call changes nothing
  pub refused_stays : (c : Call) (e : Refusal) → call_answers t m (after t m j cs) c ≡ Err e → call_leaves t m (after t m j cs) c ≡ after t m j cs
  pub others_stay : OthersStay t m j cs
  pub board_serves : BoardServes t m j cs

-- No station holds the merge while another is ahead of it.
abbrev pub ServedInOrder : {D B : Type 0} → Table → Meaning B → Junction D B → List Call → Type 0
ServedInOrder t m j cs =
    (q r : ℕ) → Holding t m j cs q → r < j.size.stations → q ≢ r → Ahead t j.size.stations j.name (history t m j cs) q r → ⊥
