-- What holds of each station of the four-line discipline, and of each two, at all times.
use Rattle.std.proofs.Common.{◌≡◌, ℕ, ◌<◌, ◌≤◌, Bool, true, false, cond, not, ◌&&◌, eqb, ◌⊎◌, refl}
use Rattle.boards.specs.Lines.{Line}
use Rattle.steps.specs.declared.record.Record.{Record}
use Rattle.sets.specs.Sets.{has}
use Rattle.steps.specs.FourLine.{four_line, view, label}
use Rattle.steps.specs.declared.four_line.FourPlace.TheVariants.{CopyTurns}
use Rattle.runs.specs.Runs.{Own, went, after}
use Rattle.runs.proofs.ContestFacts.{low, high}
use Rattle.runs.proofs.Four.Turns.{turn, own_turn, num}

-- What a go of p with the pick k leaves of it, if a loose line is answered so.
abbrev pub gone : ℕ → (ℕ → Own) → ℕ → ℕ → Bool → Own
gone N w p k heard = after (went four_line N w p k heard) (w p)

-- When a station last came from 23 to 24: at time t, if the call that turned its record from s into s' brought it there, and else at c.
abbrev pub came_to : ℕ → Record → Record → ℕ → ℕ
came_to t s s' c = cond (eqb s.place 23 && eqb s'.place 24) t c

-- Of one station.

-- The place as the table reads it.
abbrev pub SeenAs : Own → Type 0
SeenAs o = label (view o.rec.place) ≡ o.rec.place

-- Only at 23 to 27 is anything copied.
abbrev pub Copy : ℕ → Bool → Record → Type 0
Copy k e s = has s.copy (num k e) ≡ true → (23 ≤ s.place) × (s.place ≤ 27)

-- At 27 the turn kept is copied.
abbrev pub CopyKept : Record → Type 0
CopyKept s = s.place ≡ 27 → has s.copy s.kept ≡ true

-- At 25 to 33 the own turn is high.
abbrev pub Turned : Own → Type 0
Turned o = (25 ≤ o.rec.place) × (o.rec.place ≤ 33) → own_turn o ≡ high

-- Where the door may be other than low.
abbrev pub Door : Own → Type 0
Door o = (o.door ≡ low) ⊎ (((22 ≤ o.rec.place) × (o.rec.place ≤ 25)) ⊎ (o.rec.place ≡ 39))

-- Where a turn may be other than low.
abbrev pub TurnsOf : Bool → Own → Type 0
TurnsOf e o =
    (turn e o ≡ low) ⊎
    (((24 ≤ o.rec.place) × (o.rec.place ≤ 34) × (o.rec.side ≡ e)) ⊎
    (((39 ≤ o.rec.place) × (o.rec.place ≤ 41)) ⊎
    ((o.rec.place ≡ 42) × (e ≡ true))))

-- At 23 and 24 the door is high.
abbrev pub Indoor : Own → Type 0
Indoor o = (23 ≤ o.rec.place) × (o.rec.place ≤ 24) → o.door ≡ high

-- No station copies a turn of its own.
abbrev pub Self : ℕ → Bool → Record → Type 0
Self q e s = has s.copy (num q e) ≡ false

-- What holds of each station q, of each k and side e, besides the facts of the contest.
pub record Sound (q k : ℕ) (e : Bool) (o : Own) : Type 0 where
  pub copy : Copy k e o.rec
  pub copy_kept : CopyKept o.rec
  pub turned : Turned o
  pub door : Door o
  pub turns : TurnsOf e o
  pub indoor : Indoor o
  pub self : Self q e o.rec

-- Of two stations, q with the record a and r with b.

-- Who is ahead of q is yet to be read or copied by q, or holds the merge.
abbrev pub Seen : ℕ → Record → Record → Bool → Type 0
Seen r a b pq =
    (22 ≤ a.place) × (a.place ≤ 38) → pq ≡ true →
    ((a.place ≤ 23) × (has a.left (num r b.side) ≡ true)) ⊎
    ((has a.copy (num r b.side) ≡ true) ⊎
    (34 ≤ b.place))

-- Who is ahead stands at 25 to 37.
abbrev pub Ahead : Record → Bool → Type 0
Ahead b pq = pq ≡ true → (25 ≤ b.place) × (b.place ≤ 37)

-- At 34 to 38 nobody is ahead.
abbrev pub First : Record → Bool → Type 0
First a pq = (34 ≤ a.place) × (a.place ≤ 38) → pq ≡ false

-- A copy of the other side is of a station at 35 or 36 that has yet to look at q's door.
abbrev pub Fresh : ℕ → ℕ → Bool → Record → Record → Type 0
Fresh q r e a b =
    (23 ≤ a.place) × (a.place ≤ 24) → has a.copy (num r e) ≡ true → b.side ≡ not e → b.place ≤ 38 →
    (35 ≤ b.place) × (b.place ≤ 36) × (has b.left q ≡ true)

-- A copied turn is of the side in use, unless q is ahead of r.
abbrev pub Stale : ℕ → Bool → Record → Record → Bool → Type 0
Stale r e a b qp =
    has a.copy (num r e) ≡ true → (22 ≤ b.place) × (b.place ≤ 34) →
    (e ≡ b.side) ⊎ (qp ≡ true)

-- A copy of the side in use is of a station at 24 to 34, or one that failed.
abbrev pub Copied : ℕ → Record → Record → Type 0
Copied r a b =
    has a.copy (num r b.side) ≡ true →
    ((24 ≤ b.place) × (b.place ≤ 34)) ⊎ (39 ≤ b.place)

-- A copied station came to 24 before, q at ca and r at cb.
abbrev pub Later : ℕ → Record → Record → ℕ → ℕ → Type 0
Later r a b ca cb = 24 ≤ a.place → has a.copy (num r b.side) ≡ true → b.place ≤ 38 → cb < ca

-- At 45 and 46 the turns of who copied are left.
abbrev pub TurnsLeft : ℕ → ℕ → Bool → Record → Record → Type 0
TurnsLeft q r e a b = has a.copy (num r e) ≡ true → 45 ≤ b.place → has b.left (num q a.side) ≡ true

-- At 43 to 46 who copied has its own turn v high, or is left.
abbrev pub Turned₂ : ℕ → ℕ → Bool → Line → Record → Record → Type 0
Turned₂ q r e v a b =
    has a.copy (num r e) ≡ true → 43 ≤ b.place →
    (v ≡ high) ⊎ ((b.place ≤ 44) × (has b.left q ≡ true))

-- At 43 to 46 who copied and is still in the doorway is left.
abbrev pub Indoor₂ : ℕ → ℕ → Bool → Record → Record → Type 0
Indoor₂ q r e a b =
    has a.copy (num r e) ≡ true → 43 ≤ b.place → a.place ≤ 24 →
    (b.place ≤ 44) × (has b.left q ≡ true)

-- What holds of two stations: v is q's own turn; pq says that r is ahead of q, and qp that q is ahead of r; q came to 24 at ca, and r at cb.
pub record Pair (q r : ℕ) (e : Bool) (v : Line) (a b : Record) (pq qp : Bool) (ca cb : ℕ) : Type 0 where
  pub seen : Seen r a b pq
  pub ahead : Ahead b pq
  pub first : First a pq
  pub fresh : Fresh q r e a b
  pub stale : Stale r e a b qp
  pub copied : Copied r a b
  pub later : Later r a b ca cb
  pub turns_left : TurnsLeft q r e a b
  pub turned : Turned₂ q r e v a b
  pub indoor : Indoor₂ q r e a b

-- The place where turns are copied.
pub view_23 : (n : ℕ) → n ≡ 23 → view n ≡ CopyTurns
unfolding view
view_23 n e = rw e refl
