-- In every history of a table that has the contest's rows, those whom the contest looks at are stations; it reads and settles only claims.
use Rattle.std.proofs.Common.{◌≡◌, ℕ, ◌<◌, ◌≤◌, Bool, true, ◌⊎◌, List, Some, Option, sym, subst, inl, inr, arith}
use Rattle.std.proofs.lemmas.Bool.Decides.{nat_tests}
use Rattle.steps.specs.declared.record.Record.{Record}
use Rattle.steps.specs.declared.lines.Part.{Part}
use Rattle.steps.specs.declared.lines.Part.TheVariants.{Claim}
use Rattle.steps.specs.declared.lines.Flag.{Flag}
use Rattle.steps.specs.declared.go.Go.TheVariants.{Settles}
use Rattle.steps.specs.declared.contest.Contest.{Contest}
use Rattle.sets.specs.Sets.{has}
use Rattle.steps.specs.Contest.{label, looks, goes}
use Rattle.steps.specs.Table.{Table}
use Rattle.runs.specs.Runs.{Event, Own, run, after, went}
use Rattle.runs.specs.Laws.{Numbered}
use Rattle.sets.proofs.SetLaws.{without_at, above_at, first_at}
use Rattle.runs.proofs.ContestFacts.{Wins, Aside, contested}
use Rattle.runs.proofs.ContestRuns.{HasContest, facts}
use Rattle.runs.proofs.Records.{lasting}

-- At 29, 32 and 33 those left are stations.
abbrev pub Left : ℕ → ℕ → Record → Type 0
Left N k s = (s.place ≡ 29) ⊎ ((32 ≤ s.place) × (s.place ≤ 33)) → has s.left k ≡ true → k < N

-- At 30, 31 and 33 the one kept is a station.
abbrev pub Kept : ℕ → Record → Type 0
Kept N s = ((30 ≤ s.place) × (s.place ≤ 31)) ⊎ (s.place ≡ 33) → s.kept < N

-- What holds of each record, and of each number k.
pub record Ranged (N k : ℕ) (s : Record) : Type 0 where
  pub left : Left N k s
  pub kept : Kept N s

-- A go of the contest.
module _ (x : Contest) (won N : ℕ) (w : ℕ → Own) (p j : ℕ) (a : Bool) (at : label x ≡ (w p).rec.place) (wins : Wins won) where
  abbrev now : Record
  now = (after (contested x won N w p j a) (w p)).rec

  left_go : (k : ℕ) → p < N → Left N k (w p).rec → Left N k now
  left_go k lt h = grind (arith, nat_tests, without_at, above_at, first_at)

  kept_go : Left N j (w p).rec → Kept N (w p).rec → Kept N now
  kept_go l h = grind (arith, nat_tests)

-- A go outside it.
ranged_aside : (N k : ℕ) (o o' : Own) → Aside o o' → Ranged N k o'.rec
ranged_aside N k o o' h = record { left = grind arith; kept = grind arith }

module _ (t : Table) (won : ℕ) (Place : ℕ → Type 0) (has : HasContest t won Place) (N name : ℕ) (few : N ≤ 16) where
  abbrev own : List Event → ℕ → Own
  own es = (run t N name es).own

  gone : (es : List Event) (p j : ℕ) (a : Bool) → p < N
      → ((k : ℕ) → Ranged N k (own es p).rec) → (k : ℕ) → Ranged N k (after (went t N (own es) p j a) (own es p)).rec
  gone es p j a lt h k =
      let f = (facts t won Place has N name few es).each p in
      elim (has.rows N (own es) p j a f.place (f.sound 0).rests) [
        | inl (x, at, same) ↦
            subst (λ r. Ranged N k (after r (own es p)).rec) (sym same)
            (record {
              left = left_go x won N (own es) p j a at has.wins k lt (h k).left;
              kept = kept_go x won N (own es) p j a at has.wins (h j).left (h j).kept;
            })
        | inr x ↦ ranged_aside N k (own es p) (after (went t N (own es) p j a) (own es p)) x
      ]

  starting : (k : ℕ) (s : Record) → Ranged N k (t.starts N s)
  starting k s = let l = has.starts_low N s in record { left = grind arith; kept = grind arith }

  -- The ranges hold after every history.
  pub ranged : (es : List Event) (p k : ℕ) → Ranged N k (own es p).rec
  ranged =
      lasting t N name (λ p s. (k : ℕ) → Ranged N k s)
      (record {
        new = λ p k. record { left = grind arith; kept = grind arith };
        starts = λ p s _ k. starting k s;
        goes = gone;
        fails = λ p k. record { left = grind arith; kept = grind arith };
        leaves = λ p s _ k. record { left = grind arith; kept = grind arith };
      })

-- So a line that the contest reads is a station's.
pub contest_reads : (x : Contest) (N : ℕ) (s : Record) (k : ℕ) (y : Flag) → label x ≡ s.place
    → Left N k s → Kept N s → looks x s k ≡ Some y → y.station < N
contest_reads x N s k y at l h e = grind (arith, nat_tests)

-- It settles only claims.
pub contest_settles : (x : Contest) (won N p : ℕ) (s : Record) (k : ℕ) (high : Bool) (y : Part) (v : Bool) (s' : Record)
    → goes x won N p s k high ≡ Settles y v s' → y ≡ Claim
contest_settles x won N p s k high y v s' e = grind (arith, nat_tests)

-- A line that is read has a number, where its station is one.
pub numbered_read : (t : Table) (N : ℕ) (o : Option Flag) (x : Flag) → Numbered t N o → o ≡ Some x → x.station < N
    → (l : ℕ) × (t.number N x ≡ Some l)
numbered_read t N o x h e lt = subst (Numbered t N) e h lt
