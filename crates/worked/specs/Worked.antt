-- Worked runs, over what the calls promise.
use Rattle.std.specs.Prelude.{◌≡◌, ℕ, suc, ◌+◌, ◌-◌, ◌*◌, ◌<◌, ◌≤◌, Bool, true, false, List, [], ◌∷◌, Ok, Err}
use Rattle.std.specs.Borrow.{Bor}
use Rattle.boards.specs.Lines.{loose}
use Rattle.boards.specs.Runs as boards
use Rattle.boards.specs.Hold.{Hold, hold, new_hold}
use Rattle.boards.specs.Tape.{tape, new_tape}
use Rattle.disciplines.specs.declared.four_line.FourLine.{FourLine}
use Rattle.disciplines.specs.declared.plain.Plain.{Plain}
use Rattle.steps.specs.declared.answers.Outcome.TheVariants.{Accepted}
use Rattle.steps.specs.declared.answers.Refusal.TheVariants.{NotIdle, WrongPick, MustLeave, NothingToSettle, NotCurrent, StillCurrent}
use Rattle.steps.specs.Rows.{merge_place}
use Rattle.steps.specs.Table.{Table}
use Rattle.steps.specs.FourLine.{four_line}
use Rattle.steps.specs.Plain.{plain}
use Rattle.runs.specs.Runs.{limit}
use Rattle.junction.specs.declared.making.Unfit.TheVariants.{Stations, Lines}
use Rattle.junction.specs.declared.pass.Pass.{Pass}
use Rattle.junction.specs.declared.state.Junction.{Junction}
use Rattle.junction.specs.Making.{check_answers, new_junction}
use Rattle.junction.specs.Calls.{place, start_answers, start_leaves, go_answers, go_leaves, stir_answers, fail_leaves, take_answers, take_leaves, leave_answers, void_answers, current}
use Rattle.junction.specs.Promise.{Call, after}
use Rattle.worked.specs.Lone.{OnlyOf, ArrivesAfter}
use Rattle.worked.specs.Behind.{At25, since, Stays, WaitsBehind}

-- Junctions of N stations over a hold board of 64 lines, as made.
abbrev pub four_line_junction : ℕ → ℕ → Junction FourLine Hold
four_line_junction N name = new_junction four_line hold (record {}) N name (new_hold 64)

abbrev pub plain_junction : ℕ → ℕ → Junction Plain Hold
plain_junction N name = new_junction plain hold (record {}) N name (new_hold 64)

-- Of no stations, or of more than sixteen, there is no junction.
pub record Checked : Type 0 where
  pub none : check_answers four_line hold 0 (new_hold 64) ≡ Err Stations
  pub sixteen : check_answers four_line hold 16 (new_hold 64) ≡ Ok tt
  pub seventeen : check_answers four_line hold 17 (new_hold 64) ≡ Err Stations

module _ {D : Type 0} (t : Table) (j : Junction D Hold) where
  -- The first start of a station is accepted, and a second one is refused.
  pub record StartsOnce (p : ℕ) : Type 0 where
    pub first : start_answers t hold j p ≡ Ok Accepted
    pub second : start_answers t hold (start_leaves t hold j p) p ≡ Err NotIdle

  -- On the merge a go is refused, whatever its pick.
  abbrev pub IsToldToLeave : ℕ → Type 0
  IsToldToLeave p = p < j.size.stations → j.counts.used < limit → place j p ≡ merge_place → (k : ℕ) → go_answers t hold j p k ≡ Err MustLeave

  -- A pass that is current cannot be voided.
  abbrev pub NotVoided : Pass → Type 0
  NotVoided c = c.station < j.size.stations → current j c ≡ true → void_answers t hold j c ≡ Err (c, StillCurrent)

  -- Station p on the merge, whose pass c is taken, fails: its hold ends, and the pass can be voided, but not be used to leave.
  pub record FailsOnMerge (p : ℕ) (c : Pass) : Type 0 where
    pub still_current : void_answers t hold (take_leaves t hold j p) c ≡ Err (c, StillCurrent)
    pub ends : (fail_leaves t hold (take_leaves t hold j p) p).counts.totals.ends ≡ suc j.counts.totals.ends
    pub not_current : leave_answers t hold (fail_leaves t hold (take_leaves t hold j p) p) c ≡ Err (c, NotCurrent)
    pub voided : void_answers t hold (fail_leaves t hold (take_leaves t hold j p) p) c ≡ Ok Accepted

  abbrev pub FailsWithPass : ℕ → Type 0
  FailsWithPass p = (c : Pass) → j.counts.used < limit → take_answers t hold j p ≡ Ok c → FailsOnMerge p c

-- At 22 the door can be stirred; at 23, to which a go leads whatever its pick, no line can.
pub record StirsAtDoor (j : Junction FourLine Hold) (p : ℕ) : Type 0 where
  pub at_22 : stir_answers four_line hold (start_leaves four_line hold j p) p ≡ Ok Accepted
  pub at_23 : (k : ℕ) → stir_answers four_line hold (go_leaves four_line hold (start_leaves four_line hold j p) p k) p ≡ Err NothingToSettle

-- At 23 of N stations, 2N is no turn number, and 2N - 1 is one still to be read.
pub record PicksTurn (j : Junction FourLine Hold) (N p : ℕ) : Type 0 where
  pub at_23 : (k : ℕ) → place (go_leaves four_line hold (start_leaves four_line hold j p) p k) p ≡ 23
  pub wrong : (k : ℕ) → go_answers four_line hold (go_leaves four_line hold (start_leaves four_line hold j p) p k) p (2 * N) ≡ Err WrongPick
  pub right : (k : ℕ) → go_answers four_line hold (go_leaves four_line hold (start_leaves four_line hold j p) p k) p (2 * N - 1) ≡ Ok Accepted

-- The next loose read of a tape of hex 05, of which so many came before, answers v: at whatever line, after whatever calls.
abbrev pub LooseRead : ℕ → Bool → Type 0
LooseRead k v =
    (lines : ℕ) (noise : Bor (List ℕ)) → noise.now ≡ 5 ∷ [] → (cs : List boards.Call) (i : ℕ) →
    boards.loose_reads tape (new_tape lines noise) cs ≡ k → tape.line (boards.after tape (new_tape lines noise) cs) i ≡ loose →
    tape.answer (boards.after tape (new_tape lines noise) cs) i ≡ v

pub record LooseReads : Type 0 where
  pub first : LooseRead 0 true
  pub second : LooseRead 1 false
  pub third : LooseRead 2 true

-- Station 0 of two can come to 25 of its first start; when station 1 starts then, it waits behind.
pub record BehindTheFirst (j : Junction FourLine Hold) : Type 0 where
  pub comes_to_25 : (picks : List ℕ) × At25 j picks
  pub waits_behind : (picks : List ℕ) → At25 j picks → (later : List Call) → Stays j picks later → WaitsBehind (since j picks later)

-- The same in both disciplines.
pub record InBoth (F P : Type 0) : Type 0 where
  pub four_line : F
  pub plain : P

pub record WorkedRuns : Type 0 where
  -- check of 0 and of 17 stations is refused for their number (1), of 16 it is accepted
  pub checked : Checked
  -- check of 16 four-line stations over 63 lines is refused for the lines (2)
  pub short_board : check_answers four_line hold 16 (new_hold 63) ≡ Err Lines
  -- a second start is refused, as the station is not idle (4)
  pub starts_once : InBoth
      ((N name p : ℕ) → N ≤ 16 → p < N → StartsOnce four_line (four_line_junction N name) p)
      ((N name p : ℕ) → N ≤ 16 → p < N → StartsOnce plain (plain_junction N name) p)
  -- where only station p was ever called, each start of it leads to the merge by 6N + 8 - p goes
  pub four_line_arrives : (N name p : ℕ) → N ≤ 16 → p < N → (earlier : List Call) → OnlyOf p earlier → ArrivesAfter four_line (four_line_junction N name) p earlier (6 * N + 8 - p)
  -- in the plain discipline by 2N + 1 - p
  pub plain_arrives : (N name p : ℕ) → N ≤ 16 → p < N → (earlier : List Call) → OnlyOf p earlier → ArrivesAfter plain (plain_junction N name) p earlier (2 * N + 1 - p)
  -- at 23 the pick 2N is wrong (5), and 2N - 1 is accepted
  pub picks_turn : (N name p : ℕ) → N ≤ 16 → p < N → PicksTurn (four_line_junction N name) N p
  -- a go at 37 is refused: the station must leave (6)
  pub must_leave : InBoth ((j : Junction FourLine Hold) (p : ℕ) → IsToldToLeave four_line j p) ((j : Junction Plain Hold) (p : ℕ) → IsToldToLeave plain j p)
  -- of two stations, 0 is at 25 of its first start when 1 starts: while 0 stays at 25 to 34, 1 copies turn number 0 and waits at 27
  pub behind_the_first : (name : ℕ) → BehindTheFirst (four_line_junction 2 name)
  -- a failure at 37 with the pass out, after whatever calls: ends rise by one, a leave is refused (10), a void is accepted
  pub fails_with_pass : InBoth
      ((N name : ℕ) (calls : List Call) (p : ℕ) → FailsWithPass four_line (after four_line hold (four_line_junction N name) calls) p)
      ((N name : ℕ) (calls : List Call) (p : ℕ) → FailsWithPass plain (after plain hold (plain_junction N name) calls) p)
  -- a void of a current pass is refused (11)
  pub not_voided : InBoth ((j : Junction FourLine Hold) (c : Pass) → NotVoided four_line j c) ((j : Junction Plain Hold) (c : Pass) → NotVoided plain j c)
  -- on a tape of hex 05 the first three loose reads are high, low, high
  pub loose_reads : LooseReads
  -- a stir at 22 is accepted, and at 23 refused, as no line is to be settled (7)
  pub stirs_at_door : (N name p : ℕ) → N ≤ 16 → p < N → StirsAtDoor (four_line_junction N name) p
