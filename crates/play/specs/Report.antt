-- The report of a schedule: its text, and what is noted of its play.
use Rattle.std.specs.Prelude.{◌≡◌, ℕ, ◌+◌, List, [], ◌∷◌, ◌++◌, length, drop, Ok, Err, Result}
use Rattle.std.specs.Borrow.{Bor}
use Rattle.std.specs.Option.{option_to_list}
use Rattle.boards.specs.Lines.{Meaning}
use Rattle.boards.specs.Hold.{Hold, hold, new_hold}
use Rattle.boards.specs.Tape.{Tape, tape, new_tape}
use Rattle.disciplines.specs.declared.four_line.FourLine.{FourLine}
use Rattle.disciplines.specs.declared.plain.Plain.{Plain}
use Rattle.steps.specs.Table.{Table}
use Rattle.steps.specs.FourLine.{four_line}
use Rattle.steps.specs.Plain.{plain}
use Rattle.junction.specs.declared.state.Junction.{Junction}
use Rattle.junction.specs.Making.{new_junction}
use Rattle.junction.specs.Promise.{Call, after}
use Rattle.schedule.specs.declared.event.Event.{Event}
use Rattle.schedule.specs.declared.discipline.DisciplineKind.{DisciplineKind}
use Rattle.schedule.specs.declared.discipline.DisciplineKind.TheVariants as kind
use Rattle.schedule.specs.declared.refusal.Refusal.{Refusal}
use Rattle.schedule.specs.Refusals.{number_of, index_of}
use Rattle.schedule.specs.Decode.{Plan, decode}
use Rattle.report.specs.Lines.{end_line, refusal_line}
use Rattle.trails.specs.Held.{Held, all_put}
use Rattle.play.specs.declared.entries.GrantEntry.{GrantEntry}
use Rattle.play.specs.declared.entries.RefusalEntry.{RefusalEntry}
use Rattle.play.specs.OneEvent.{calls_of, after_event, written_of}

-- The end line tells the totals.
abbrev pub totals_line : {D B : Type 0} → Junction D B → List ℕ
totals_line j = end_line j.counts.totals.grants j.counts.totals.ends j.counts.totals.rounds

module _ {D B : Type 0} (t : Table) (m : Meaning B) where
  -- The junction after all events, by one event after another, and the calls that they made, the newest first.
  abbrev pub end_of : Junction D B → List Event → Junction D B
  end_of j [] = j
  end_of j (e ∷ es) = end_of (after_event t m j e) es

  abbrev pub all_calls : Junction D B → List Event → List Call
  all_calls j [] = []
  all_calls j (e ∷ es) = all_calls (after_event t m j e) es ++ calls_of t m j e

  -- The lines of the events, of which the first has index i, and what is noted of them, the oldest first.
  abbrev pub lines_of : Junction D B → List Event → ℕ → List ℕ
  lines_of j [] i = []
  lines_of j (e ∷ es) i = (written_of t m j e i).line ++ lines_of (after_event t m j e) es (i + 1)

  abbrev pub grants_of : Junction D B → List Event → ℕ → List GrantEntry
  grants_of j [] i = []
  grants_of j (e ∷ es) i = option_to_list (written_of t m j e i).grant ++ grants_of (after_event t m j e) es (i + 1)

  abbrev pub refusals_of : Junction D B → List Event → ℕ → List RefusalEntry
  refusals_of j [] i = []
  refusals_of j (e ∷ es) i = option_to_list (written_of t m j e i).refusal ++ refusals_of (after_event t m j e) es (i + 1)

  -- A line for each event, and the end line.
  abbrev pub text_of : Junction D B → List Event → List ℕ
  text_of j es = lines_of j es 0 ++ totals_line (end_of j es)

-- The junction after all events is the one that all their calls leave, so that the promise over lists of calls speaks of it.
abbrev pub ByCalls : {D B : Type 0} → Table → Meaning B → Junction D B → Type 0
ByCalls t m j = (es : List Event) → end_of t m j es ≡ after t m j (all_calls t m j es)

pub record EndsByCalls : Type 0 where
  pub four_line_held : (j : Junction FourLine Hold) → ByCalls four_line hold j
  pub four_line_taped : (j : Junction FourLine Tape) → ByCalls four_line tape j
  pub plain_held : (j : Junction Plain Hold) → ByCalls plain hold j
  pub plain_taped : (j : Junction Plain Tape) → ByCalls plain tape j

-- What a play shows: the text of the report, and the entries of the two trails, the oldest first.
pub record Shown : Type 0 where
  pub text : List ℕ
  pub grants : List GrantEntry
  pub refusals : List RefusalEntry

abbrev pub shown : {D B : Type 0} → Table → Meaning B → Junction D B → List Event → Shown
shown t m j es = record { text = text_of t m j es; grants = grants_of t m j es 0; refusals = refusals_of t m j es 0 }

-- The bench's boards have so many lines, and its junction has this name.
abbrev pub bench_lines : ℕ
bench_lines = 64

abbrev pub bench_name : ℕ
bench_name = 1

-- A schedule played on a new junction of its discipline and number of stations, over that board.
abbrev pub shown_on : {B : Type 0} → Meaning B → B → Plan → DisciplineKind → Shown
shown_on m b p kind.FourLine = shown {D = FourLine} four_line m (new_junction four_line m (record {}) p.stations bench_name b) p.events
shown_on m b p kind.Plain = shown {D = Plain} plain m (new_junction plain m (record {}) p.stations bench_name b) p.events

-- A new tape board over these bytes.
abbrev pub NewTape : List ℕ → Tape → Type 0
NewTape noise b = (lent : Bor (List ℕ)) × (lent.now ≡ noise) × (b ≡ new_tape bench_lines lent)

-- Without noise the hold board is used, else a tape board over the noise.
abbrev pub Played : Plan → List ℕ → Shown → Type 0
Played p [] x = x ≡ shown_on hold (new_hold bench_lines) p p.discipline
Played p (n ∷ ns) x = (b : Tape) × NewTape (n ∷ ns) b × (x ≡ shown_on tape b p p.discipline)

-- What is shown of bytes that decode to this. Refused bytes get one line, and nothing is noted.
abbrev pub Shows : Result Plan Refusal → Shown → Type 0
Shows (Err e) x = x ≡ record { text = refusal_line (number_of e) (index_of e); grants = []; refusals = [] }
Shows (Ok p) x = Played p p.noise x

-- The text stands at the front of the buffer, in its length, and what is behind it stays; the trails have what is noted.
pub record Stands (x : Shown) (out out' : List ℕ) (long : ℕ) (grants grants' : Held GrantEntry) (refusals refusals' : Held RefusalEntry) : Type 0 where
  pub long_is : long ≡ length x.text
  pub out_is : out' ≡ x.text ++ drop (length x.text) out
  pub grants_are : grants' ≡ all_put grants x.grants
  pub refusals_are : refusals' ≡ all_put refusals x.refusals

-- What the bytes show stands there.
abbrev pub Reported : List ℕ → List ℕ → List ℕ → ℕ → Held GrantEntry → Held GrantEntry → Held RefusalEntry → Held RefusalEntry → Type 0
Reported bytes out out' long g g' d d' = (x : Shown) × Shows (decode bytes) x × Stands x out out' long g g' d d'
