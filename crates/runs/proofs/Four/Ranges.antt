-- In the four-line discipline each station stands at a place of its table, and a go reads and settles only lines that are on the board.
use Rattle.std.proofs.Common.{◌≡◌, ℕ, ◌*◌, ◌<◌, ◌≤◌, Bool, true, ◌⊎◌, List, Some, arith}
use Rattle.std.proofs.lemmas.Bool.Decides.{nat_tests}
use Rattle.steps.specs.declared.record.Record.{Record}
use Rattle.steps.specs.declared.lines.Flag.{Flag}
use Rattle.steps.specs.declared.four_line.FourPlace.{FourPlace}
use Rattle.sets.specs.Sets.{has}
use Rattle.steps.specs.Rows.{release_place, failed, new_record, to_number, flag}
use Rattle.steps.specs.FourLine.{four_line, view, label, looks}
use Rattle.runs.specs.Runs.{Event, Own, run}
use Rattle.runs.specs.Laws.{InRange}
use Rattle.sets.proofs.SetLaws.{without_at, plus_at, none_at, first_at}
use Rattle.runs.proofs.LinesApart.{four_lines, four_there}
use Rattle.runs.proofs.FourContest.{Place, four_contest}
use Rattle.runs.proofs.Records.{lasting}
use Rattle.runs.proofs.Ranges as contest
use Rattle.runs.proofs.Four.Facts.{gone, SeenAs}
use Rattle.runs.proofs.Four.Sound.{seen_as}
use Rattle.runs.proofs.Unread.{four_unread}

-- At 35, 36, 43 and 44 those left are stations.
abbrev Doors : ℕ → ℕ → Record → Type 0
Doors N k s = ((35 ≤ s.place) × (s.place ≤ 36)) ⊎ ((43 ≤ s.place) × (s.place ≤ 44)) → has s.left k ≡ true → k < N

-- At 36 and 44 the one kept is a station.
abbrev DoorKept : ℕ → Record → Type 0
DoorKept N s = (s.place ≡ 36) ⊎ (s.place ≡ 44) → s.kept < N

-- At 22, 23, 45 and 46 those left are turns of stations, two for each.
abbrev Turns : ℕ → ℕ → Record → Type 0
Turns N k s = ((22 ≤ s.place) × (s.place ≤ 23)) ⊎ ((45 ≤ s.place) × (s.place ≤ 46)) → has s.left k ≡ true → k < 2 * N

-- Those copied are turns of stations too, at every place.
abbrev Copies : ℕ → ℕ → Record → Type 0
Copies N k s = has s.copy k ≡ true → k < 2 * N

-- At 27 and 46 the one kept is a turn of a station.
abbrev TurnKept : ℕ → Record → Type 0
TurnKept N s = (s.place ≡ 27) ⊎ (s.place ≡ 46) → s.kept < 2 * N

-- What holds of each record, and of each number k, besides the contest's ranges.
record Ranged (N k : ℕ) (s : Record) : Type 0 where
  doors : Doors N k s
  door_kept : DoorKept N s
  turns : Turns N k s
  copies : Copies N k s
  turn_kept : TurnKept N s

-- A go, at any place.
module _ (N : ℕ) (w : ℕ → Own) (p j : ℕ) (heard : Bool) (x : SeenAs (w p)) where
  abbrev now : Record
  now = (gone N w p j heard).rec

  doors_go : (k : ℕ) → Doors N k (w p).rec → Doors N k now
  doors_go k h = grind (arith, nat_tests, without_at, first_at)

  door_kept_go : Doors N j (w p).rec → DoorKept N (w p).rec → DoorKept N now
  door_kept_go d h = grind (arith, nat_tests)

  turns_go : (k : ℕ) → Turns N k (w p).rec → Turns N k now
  turns_go k h = grind (arith, nat_tests, without_at, first_at)

  copies_go : (k : ℕ) → Turns N j (w p).rec → Copies N k (w p).rec → Copies N k now
  copies_go k t h = grind (arith, nat_tests, without_at, plus_at)

  turn_kept_go : Turns N j (w p).rec → Copies N j (w p).rec → TurnKept N (w p).rec → TurnKept N now
  turn_kept_go t c h = grind (arith, nat_tests)

  ranged_go : ((k : ℕ) → Ranged N k (w p).rec) → (k : ℕ) → Ranged N k now
  ranged_go h k = record {
    doors = doors_go k (h k).doors;
    door_kept = door_kept_go (h j).doors (h j).door_kept;
    turns = turns_go k (h k).turns;
    copies = copies_go k (h j).turns (h k).copies;
    turn_kept = turn_kept_go (h j).turns (h j).copies (h j).turn_kept;
  }

-- The other calls.
module _ (N k : ℕ) where
  ranged_start : (s : Record) → Ranged N k (four_line.starts N s)
  ranged_start s =
      let c = none_at k in
      let f = first_at (2 * N) k in
      record { doors = grind arith; door_kept = grind arith; turns = grind (arith, nat_tests); copies = grind arith; turn_kept = grind arith }

  ranged_new : Ranged N k new_record
  ranged_new = let c = none_at k in record { doors = grind arith; door_kept = grind arith; turns = grind arith; copies = grind arith; turn_kept = grind arith }

  ranged_fail : Ranged N k failed
  ranged_fail = let c = none_at k in record { doors = grind arith; door_kept = grind arith; turns = grind arith; copies = grind arith; turn_kept = grind arith }

  ranged_leave : (s : Record) → Ranged N k s → Ranged N k (to_number release_place s)
  ranged_leave s h = record { doors = grind arith; door_kept = grind arith; turns = grind arith; copies = h.copies; turn_kept = grind arith }

-- The ranges hold after every history.
ranged : (N name : ℕ) → N ≤ 16 → (es : List Event) (p k : ℕ) → Ranged N k ((run four_line N name es).own p).rec
ranged N name few =
    lasting four_line N name (λ p s. (k : ℕ) → Ranged N k s)
    (record {
      new = λ p k. ranged_new N k;
      starts = λ p s _ k. ranged_start N k s;
      goes = λ es p j heard lt. ranged_go N (run four_line N name es).own p j heard (seen_as N name few es p);
      fails = λ p k. ranged_fail N k;
      leaves = λ p s h k. ranged_leave N k s (h k);
    })

-- So a go reads only lines of stations.
reads : (v : FourPlace) (N : ℕ) (s : Record) (k : ℕ) (y : Flag) → label v ≡ s.place → contest.Left N k s → contest.Kept N s
    → DoorKept N s → Turns N k s → TurnKept N s → looks v s k ≡ Some y → y.station < N
reads v N s k y at l c d t u e = grind (arith, nat_tests)

pub four_range : InRange four_line (λ n. label (view n))
four_range = record {
  places = λ N name es p few. seen_as N name few es p;
  reads = λ N name es p k x few lt e.
      let s : Record = ((run four_line N name es).own p).rec in
      let c = contest.ranged four_line 34 Place four_contest N name few es p k in
      let h = ranged N name few es p k in
      contest.numbered_read four_line N _ x (four_lines.looks N p s k) e
      (reads (view s.place) N s k x (seen_as N name few es p) c.left c.kept h.door_kept h.turns h.turn_kept e);
  settles = λ N p s k high x v s' lt e. four_there N (flag p x) lt;
  unread = λ N p s k high e. four_unread (view s.place) N p s k high e;
}
