-- In the plain discipline each station stands at a place of its table, and a go reads and settles only lines that are on the board.
use Rattle.std.proofs.Common.{◌≡◌, ℕ, ◌<◌, Bool, Some, refl, arith, lt-ltb}
use Rattle.steps.specs.declared.record.Record.{Record}
use Rattle.steps.specs.declared.lines.Part.{Part}
use Rattle.steps.specs.declared.lines.Part.TheVariants.{Claim}
use Rattle.steps.specs.declared.lines.Flag.{Flag}
use Rattle.steps.specs.declared.go.Go.TheVariants.{Settles}
use Rattle.steps.specs.declared.plain.PlainPlace.{PlainPlace}
use Rattle.steps.specs.declared.plain.PlainPlace.TheVariants.{Idle, Contest, Merging, Failed}
use Rattle.steps.specs.Plain.{plain, view, label, looks, goes, number}
use Rattle.runs.specs.Runs.{run}
use Rattle.runs.specs.Laws.{InRange}
use Rattle.runs.proofs.ContestRuns.{facts}
use Rattle.runs.proofs.LinesApart.{plain_lines}
use Rattle.runs.proofs.PlainContest.{Place, seen, plain_contest}
use Rattle.runs.proofs.Ranges.{Ranged, ranged, contest_reads, contest_settles, numbered_read}
use Rattle.runs.proofs.Unread.{plain_unread}

-- Only the contest reads.
reads : (v : PlainPlace) (N : ℕ) (s : Record) (k : ℕ) (y : Flag) → label v ≡ s.place → Ranged N k s → looks v s k ≡ Some y → y.station < N
reads (Contest x) N s k y at h e = contest_reads x N s k y at h.left h.kept e
reads Idle N s k y at h e = absurd (grind arith)
reads Merging N s k y at h e = absurd (grind arith)
reads Failed N s k y at h e = absurd (grind arith)

-- Only claims are settled, and the claim of a station has a number.
settles : (u : PlainPlace) (N p : ℕ) (s : Record) (k : ℕ) (high : Bool) (y : Part) (v : Bool) (s' : Record) → goes u N p s k high ≡ Settles y v s' → y ≡ Claim
settles (Contest x) N p s k high y v s' e = contest_settles x 37 N p s k high y v s' e
settles Idle N p s k high y v s' e = absurd (grind arith)
settles Merging N p s k high y v s' e = absurd (grind arith)
settles Failed N p s k high y v s' e = grind arith

claim_number : (N p : ℕ) (y : Part) → p < N → y ≡ Claim → (l : ℕ) × (number N p y ≡ Some l)
claim_number N p y lt e = (p, rw e (rw (lt-ltb p N lt) refl))

pub plain_range : InRange plain (λ n. label (view n))
plain_range = record {
  places = λ N name es p few. seen _ ((facts plain 37 Place plain_contest N name few es).each p).place;
  reads = λ N name es p k x few lt e.
      let s : Record = ((run plain N name es).own p).rec in
      let at = seen s.place ((facts plain 37 Place plain_contest N name few es).each p).place in
      numbered_read plain N _ x (plain_lines.looks N p s k) e
      (reads (view s.place) N s k x at (ranged plain 37 Place plain_contest N name few es p k) e);
  settles = λ N p s k high x v s' lt e. claim_number N p x lt (settles (view s.place) N p s k high x v s' e);
  unread = λ N p s k high e. plain_unread (view s.place) N p s k high e;
}
