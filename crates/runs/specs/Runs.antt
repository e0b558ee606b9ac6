-- What follows from the calls and from the board's answers about loose lines, and from nothing else.
use Rattle.std.specs.Prelude.{ℕ, suc, Bool, true, false, cond, not, ◌&&◌, ◌||◌, List, [], ◌∷◌, Some, None, Option, ◌==◌, nat_le, nat_lt}
use Rattle.boards.specs.Lines.{Line, settled, loose}
use Rattle.steps.specs.declared.record.Record.{Record}
use Rattle.steps.specs.declared.lines.Part.{Part}
use Rattle.steps.specs.declared.lines.Part.TheVariants.{Door, Claim, Turn}
use Rattle.steps.specs.declared.lines.Flag.{Flag}
use Rattle.steps.specs.declared.go.Go.{Go}
use Rattle.steps.specs.declared.go.Go.TheVariants.{Idle, Waits, WrongPick, MustLeave, Moves, Settles}
use Rattle.steps.specs.declared.answers.Refusal.{Refusal}
use Rattle.steps.specs.declared.answers.Refusal.TheVariants as ref
use Rattle.sets.specs.Sets.{everywhere}
use Rattle.steps.specs.Rows.{idle_place, merge_place, release_place, failed_place, new_record, failed, to_number}
use Rattle.steps.specs.Table.{Table}

-- A pass: the junction's name, the station, and how often that station had arrived on the merge.
pub record Ticket : Type 0 where
  pub name : ℕ
  pub station : ℕ
  pub arrival : ℕ

-- A call as it came; a go with its pick and with the board's answer, should the line be loose.
pub data Event : Type 0 where
  start stir fail take : ℕ → Event
  go : ℕ → ℕ → Bool → Event
  leave void : Ticket → Event

-- All that is a station's own: its record, its lines, how often it has arrived on the merge, and whether the pass of the last arrival was taken.
pub record Own : Type 0 where
  pub rec : Record
  pub door : Line
  pub claim : Line
  pub turn0 : Line
  pub turn1 : Line
  pub arrivals : ℕ
  pub taken : Bool

pub record State : Type 0 where
  pub own : ℕ → Own
  -- accepted starts, goes, stirs and fails
  pub used : ℕ
  pub grants : ℕ
  pub ends : ℕ
  pub rounds : ℕ
  -- the stations seen in this round
  pub seen : ℕ → Bool

abbrev pub new_own : Own
new_own = record { rec = new_record; door = settled false; claim = settled false; turn0 = settled false; turn1 = settled false; arrivals = 0; taken = false }

abbrev pub made : State
made = record { own = λ q. new_own; used = 0; grants = 0; ends = 0; rounds = 0; seen = λ q. false }

-- So many starts, goes, stirs and fails are accepted, and no more.
abbrev pub limit : ℕ
limit = 4000000000

-- At most so many stations share a merge.
abbrev pub most_stations : ℕ
most_stations = 16

abbrev pub line : Part → Own → Line
line Door o = o.door
line Claim o = o.claim
line (Turn e) o = cond e o.turn1 o.turn0

-- A station's lines, each at what the function says.
abbrev pub lines_to : (Part → Line) → Own → Own
lines_to f o = record o { door = f Door; claim = f Claim; turn0 = f (Turn false); turn1 = f (Turn true) }

abbrev pub same_part : Part → Part → Bool
same_part Door Door = true
same_part Door Claim = false
same_part Door (Turn e) = false
same_part Claim Door = false
same_part Claim Claim = true
same_part Claim (Turn e) = false
same_part (Turn e) Door = false
same_part (Turn e) Claim = false
same_part (Turn e) (Turn f) = cond e f (not f)

abbrev pub line_to : Part → Line → Own → Own
line_to x v o = lines_to (λ y. cond (same_part x y) v (line y o)) o

-- The record at s.
abbrev pub stands : Record → Own → Own
stands s o = record o { rec = s }

-- By a go: an arrival on the merge is counted, and its pass is yet to be taken.
abbrev pub goes_to : Record → Own → Own
goes_to s o = record o { rec = s; arrivals = cond (s.place == merge_place) (suc o.arrivals) o.arrivals; taken = cond (s.place == merge_place) false o.taken }

abbrev pub takes : Own → Own
takes o = record o { taken = true }

-- What a read of the line gives, if a loose one is answered so.
abbrev pub reading : Line → Bool → Bool
reading (settled v) heard = v
reading loose heard = heard

abbrev pub looked : (ℕ → Own) → Option Flag → Bool → Bool
looked w None heard = false
looked w (Some l) heard = reading (line l.part (w l.station)) heard

-- A call is accepted, with what it does to the station that is named; or refused.
pub data Reply : Type 0 where
  done : Own → Reply
  waits idle : Reply
  refused : Refusal → Reply

abbrev pub of_go : Go → Own → Reply
of_go Idle o = idle
of_go Waits o = waits
of_go WrongPick o = refused ref.WrongPick
of_go MustLeave o = refused ref.MustLeave
of_go (Moves s) o = done (goes_to s o)
of_go (Settles x v s) o = done (line_to x (settled v) (goes_to s o))

-- Whether a go that does this settles the line.
abbrev pub settles : Part → Go → Bool
settles x Idle = false
settles x Waits = false
settles x WrongPick = false
settles x MustLeave = false
settles x (Moves s) = false
settles x (Settles y v s) = same_part x y

abbrev pub settles_some : Go → Bool
settles_some Idle = false
settles_some Waits = false
settles_some WrongPick = false
settles_some MustLeave = false
settles_some (Moves s) = false
settles_some (Settles y v s) = true

-- Whether a go that would do this is refused.
abbrev pub refuses : Go → Bool
refuses Idle = false
refuses Waits = false
refuses WrongPick = true
refuses MustLeave = true
refuses (Moves s) = false
refuses (Settles y v s) = false

-- Whether a stir at that place loosens the line: all lines of a station that has failed, else the one that the next go settles.
abbrev pub stirs : ℕ → Go → Part → Bool
stirs place g x = cond (place == failed_place) true (settles x g)

-- A pass is current while its station stands on the merge since that arrival.
abbrev pub current : Own → Ticket → Bool
current o t = o.rec.place == merge_place && t.arrival == o.arrivals

-- A call on a station that is there, and one that the limit allows too.
abbrev pub known : ℕ → ℕ → Reply → Reply
known N p r = cond (nat_lt p N) r (refused ref.NoStation)

abbrev pub allowed : ℕ → State → ℕ → Reply → Reply
allowed N s p r = known N p (cond (nat_lt s.used limit) r (refused ref.Limit))

module _ (t : Table) where
  -- A station holds the merge from where it is granted to 37.
  abbrev pub holds : ℕ → Bool
  holds place = nat_le t.grant place && nat_le place merge_place

  -- The go that a stir looks at. In the rows of both disciplines whether a go settles a line depends neither on the pick nor on the reading.
  abbrev pub next_go : ℕ → ℕ → Record → Go
  next_go N p s = t.goes N p s 0 false

  abbrev pub stirred : ℕ → ℕ → Own → Own
  stirred N p o = lines_to (λ x. cond (stirs o.rec.place (next_go N p o.rec) x) loose (line x o)) o

  abbrev pub went : ℕ → (ℕ → Own) → ℕ → ℕ → Bool → Reply
  went N w p k heard = of_go (t.goes N p (w p).rec k (looked w (t.looks N p (w p).rec k) heard)) (w p)

  -- What a call is answered, of N stations, at a junction of that name.
  abbrev pub reply : ℕ → ℕ → State → Event → Reply
  reply N name s (start p) = allowed N s p (cond ((s.own p).rec.place == idle_place) (done (stands (t.starts N (s.own p).rec) (s.own p))) (refused ref.NotIdle))
  reply N name s (go p k heard) = allowed N s p (went N s.own p k heard)
  reply N name s (stir p) = allowed N s p (cond (settles_some (next_go N p (s.own p).rec)) (done (stirred N p (s.own p))) (refused ref.NothingToSettle))
  reply N name s (fail p) = allowed N s p (cond ((s.own p).rec.place == failed_place) (refused ref.HasFailed) (done (stands failed (s.own p))))
  reply N name s (take p) = known N p (cond ((s.own p).rec.place == merge_place && not (s.own p).taken) (done (takes (s.own p))) (refused ref.NoPass))
  reply N name s (leave c) =
      known N c.station (cond (c.name == name && current (s.own c.station) c) (done (stands (to_number release_place (s.own c.station).rec) (s.own c.station))) (refused ref.NotCurrent))
  reply N name s (void c) =
      known N c.station (cond (c.name == name && not (current (s.own c.station) c)) (done (s.own c.station)) (refused ref.StillCurrent))

abbrev pub is_accepted : Reply → Bool
is_accepted (done o) = true
is_accepted waits = true
is_accepted idle = true
is_accepted (refused e) = false

abbrev pub is_done : Reply → Bool
is_done (done o) = true
is_done waits = false
is_done idle = false
is_done (refused e) = false

abbrev pub after : Reply → Own → Own
after (done o) old = o
after waits old = old
after idle old = old
after (refused e) old = old

-- The station that a call names.
abbrev pub of : Event → ℕ
of (start p) = p
of (stir p) = p
of (fail p) = p
of (take p) = p
of (go p k heard) = p
of (leave c) = c.station
of (void c) = c.station

-- The calls that the limit counts.
abbrev pub limited : Event → Bool
limited (start p) = true
limited (stir p) = true
limited (fail p) = true
limited (take p) = false
limited (go p k heard) = true
limited (leave c) = false
limited (void c) = false

-- The calls by which a station is seen.
abbrev pub shows : Event → Bool
shows (start p) = false
shows (stir p) = false
shows (fail p) = false
shows (take p) = false
shows (go p k heard) = true
shows (leave c) = true
shows (void c) = false

abbrev pub is_go : Event → Bool
is_go (start p) = false
is_go (stir p) = false
is_go (fail p) = false
is_go (take p) = false
is_go (go p k heard) = true
is_go (leave c) = false
is_go (void c) = false

-- The calls by which a hold ends.
abbrev pub frees : Event → Bool
frees (start p) = false
frees (stir p) = false
frees (fail p) = true
frees (take p) = false
frees (go p k heard) = false
frees (leave c) = true
frees (void c) = false

abbrev pub one_more : Bool → ℕ → ℕ
one_more b n = cond b (suc n) n

module _ (t : Table) (N name : ℕ) where
  abbrev pub accepted : State → Event → Bool
  accepted s e = is_accepted (reply t N name s e)

  -- The place of the station that calls, before and after.
  abbrev pub before : State → Event → ℕ
  before s e = (s.own (of e)).rec.place

  abbrev pub now_at : State → Event → ℕ
  now_at s e = (after (reply t N name s e) (s.own (of e))).rec.place

  -- A go grants a hold by arriving at the place named in the table.
  abbrev pub granted : State → Event → Bool
  granted s e = is_go e && is_done (reply t N name s e) && now_at s e == t.grant

  -- An accepted leave or fail of the holder ends the hold.
  abbrev pub ended : State → Event → Bool
  ended s e = frees e && is_done (reply t N name s e) && holds t (before s e)

  abbrev pub seen_now : State → Event → ℕ → Bool
  seen_now s e q = s.seen q || (shows e && accepted s e && q == of e)

  -- A round ends with the call by which the last station is seen.
  abbrev pub round_ends : State → Event → Bool
  round_ends s e = shows e && accepted s e && everywhere N (seen_now s e)

  abbrev pub next : State → Event → State
  next s e = record {
    own = λ q. cond (q == of e) (after (reply t N name s e) (s.own (of e))) (s.own q);
    used = one_more (limited e && accepted s e) s.used;
    grants = one_more (granted s e) s.grants;
    ends = one_more (ended s e) s.ends;
    rounds = one_more (round_ends s e) s.rounds;
    seen = λ q. cond (round_ends s e) false (seen_now s e q);
  }

  -- What follows from a history, in which the newest call stands first.
  abbrev pub run : List Event → State
  run [] = made
  run (e ∷ es) = next (run es) e
