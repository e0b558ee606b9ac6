-- A junction of stations over a hold board, by its promise: what it answers follows from its history.
use Rattle.std.proofs.Common.{◌≡◌, ℕ, suc, ◌*◌, ◌<◌, ◌≤◌, Bool, true, ◌≢◌, List, refl, ap, ◌∙◌, arith}
use Rattle.std.proofs.lemmas.Bool.{lt-ltb, le-leb, eq-eqb}
use Rattle.boards.specs.Hold.{Hold, hold, new_hold, hold_lawful}
use Rattle.steps.specs.Table.{Table}
use Rattle.steps.specs.Rows.{new_record}
use Rattle.runs.specs.Laws.{LinesApart, OneHolder}
use Rattle.runs.specs.Runs as runs
use Rattle.runs.specs.Runs.{start, go, State, reply, next, made, new_own, stands, limit, is_accepted}
use Rattle.runs.proofs.Calls.{others, named}
use Rattle.junction.specs.declared.state.Junction.{Junction}
use Rattle.junction.specs.Making.{new_junction}
use Rattle.junction.specs.Promise.{Call, Agrees}
use Rattle.junction.specs.Wires.{hears}
use Rattle.junction.specs.Calls.{look_of}
use Rattle.junction.proofs.Whole.{agreed}

module _ {D : Type 0} (t : Table) (apart : LinesApart t) (one : OneHolder t) (d : D) (N name : ℕ) where
  abbrev pub j : Junction D Hold
  j = new_junction t hold d N name (new_hold 64)

  pub agree : (cs : List Call) → Agrees t hold j cs
  agree = agreed t hold hold_lawful apart d N name (new_hold 64) one

-- a junction that there can be has the stations asked for
pub size_is : {D : Type 0} (t : Table) (d : D) (N name : ℕ) → 1 ≤ N → N ≤ 16 → N * t.per ≤ 64 → (new_junction t hold d N name (new_hold 64)).size.stations ≡ N
size_is t d N name some few room = rw (le-leb 1 N some, le-leb N 16 few, le-leb (N * t.per) 64 room) (omega arith)

-- after a start on a new junction
module _ (t : Table) (n name p : ℕ) (lt : p < n) where
  abbrev pub begun : State
  begun = next t n name made (start p)

  pub begun_own : begun.own p ≡ stands (t.starts n new_record) new_own
  begun_own = rw (lt-ltb p n lt, eq-eqb p p refl) refl

  pub begun_used : begun.used ≡ 1
  begun_used = rw (lt-ltb p n lt) refl

-- a go that neither number nor limit refuses
module _ (t : Table) (n name p : ℕ) (lt : p < n) (s : State) (under : s.used < limit) (k : ℕ) (heard : Bool) where
  pub go_reply : reply t n name s (go p k heard) ≡ runs.went t n s.own p k heard
  go_reply = rw (lt-ltb p n lt, lt-ltb s.used limit under) refl

  pub go_own : (next t n name s (go p k heard)).own p ≡ runs.after (runs.went t n s.own p k heard) (s.own p)
  go_own = named t n name s (go p k heard) ∙ ap (λ r. runs.after r (s.own p)) go_reply

  pub go_used : is_accepted (runs.went t n s.own p k heard) ≡ true → (next t n name s (go p k heard)).used ≡ suc s.used
  go_used acc = rw (lt-ltb p n lt, lt-ltb s.used limit under) (rw acc refl)

-- what the board tells a go
abbrev pub heard_by : {D : Type 0} → Table → Junction D Hold → ℕ → ℕ → Bool
heard_by t j p k = hears t hold j.size.stations j.board (look_of t hold j p k)
