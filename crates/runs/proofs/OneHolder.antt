-- A table that has the contest's rows grants the merge to one station at a time, and counts the holds.
use Rattle.std.proofs.Common.{ℕ, ◌<◌, ◌≤◌, List, arith}
use Rattle.std.proofs.lemmas.Bool.Decides.{nat_tests}
use Rattle.steps.specs.Table.{Table}
use Rattle.runs.specs.Runs.{Event}
use Rattle.runs.specs.Words.{Holds}
use Rattle.runs.specs.Laws.{OneHolder}
use Rattle.runs.proofs.ContestRuns.{HasContest, facts, inside, one_holds}
use Rattle.runs.proofs.Counts.{Shaped, counted}

module _ (t : Table) (won : ℕ) (Place : ℕ → Type 0) (has : HasContest t won Place) (shaped : Shaped t Place) (late : 34 ≤ t.grant) (early : t.grant ≤ 37) where
  holder_inside : (N name : ℕ) → N ≤ 16 → (es : List Event) (p : ℕ) → Holds t N name es p → p < N
  holder_inside N name few es p h = inside t won Place has N name few es p (λ e. grind (arith, nat_tests))

  pub one_holder : OneHolder t
  one_holder = record {
    merging = early;
    one = λ N name es p q few. one_holds t won Place has N name few late es p q;
    counted = λ N name es few.
        counted t Place shaped N name (λ es p. ((facts t won Place has N name few es).each p).place) (holder_inside N name few) (one_holds t won Place has N name few late) es;
  }
