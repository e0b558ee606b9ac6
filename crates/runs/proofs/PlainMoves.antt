-- In the plain discipline some busy station can always move.
use Rattle.std.proofs.Common.{◌≡◌, ℕ, ◌<◌, ◌≤◌, Bool, true, ◌≢◌, ◌⊎◌, List, refl, arith}
use Rattle.steps.specs.declared.plain.PlainPlace.{PlainPlace}
use Rattle.steps.specs.declared.plain.PlainPlace.TheVariants.{Idle, Contest, Merging, Failed}
use Rattle.steps.specs.Plain.{plain, view, label, looks, goes}
use Rattle.runs.specs.Runs.{Event, Own, run, is_done, limit, of_go, looked}
use Rattle.runs.specs.Words.{Busy, CanMove}
use Rattle.runs.specs.Laws.{NeverStuck}
use Rattle.sets.proofs.SetLaws.{member}
use Rattle.runs.proofs.ContestFacts.{low, goes_on}
use Rattle.runs.proofs.ContestRuns.{facts, inside}
use Rattle.runs.proofs.CanMove.{can_move}
use Rattle.runs.proofs.Climb.{by_claim}
use Rattle.runs.proofs.PlainContest.{Place, seen, plain_contest}

-- A go at a place where the station is busy, is not on the merge, and waits for no claim, is done.
go_done : (N : ℕ) (w : ℕ → Own) (p : ℕ) (a : Bool) (v : PlainPlace) → label v ≡ (w p).rec.place → (w p).rec.place ≢ 21 → (w p).rec.place ≢ 37
    → (((w p).rec.place ≡ 31) ⊎ ((w p).rec.place ≡ 33) → (w (w p).rec.kept).claim ≡ low)
    → is_done (of_go (goes v N p (w p).rec (member (w p).rec.left) (looked w (looks v (w p).rec (member (w p).rec.left)) a)) (w p)) ≡ true
go_done N w p a (Contest x) at busy out free = goes_on x 37 N w p (member (w p).rec.left) a at (omega arith, omega arith) refl free
go_done N w p a Idle at busy out free = absurd (grind arith)
go_done N w p a Merging at busy out free = absurd (grind arith)
go_done N w p a Failed at busy out free = refl

module _ (N name : ℕ) (few : N ≤ 16) (es : List Event) (under : (run plain N name es).used < limit) where
  abbrev w : ℕ → Own
  w = (run plain N name es).own

  abbrev Someone : Type 0
  Someone = (p : ℕ) × (p < N) × Busy plain N name es p × CanMove plain N name es p

  -- Who is busy is a station.
  within : (p : ℕ) → Busy plain N name es p → p < N
  within p b = inside plain 37 Place plain_contest N name few es p b

  -- Who waits for no claim can move.
  ready : (p : ℕ) → Busy plain N name es p → (((w p).rec.place ≡ 31) ⊎ ((w p).rec.place ≡ 33) → (w (w p).rec.kept).claim ≡ low) → Someone
  ready p b free =
      let at = seen (w p).rec.place ((facts plain 37 Place plain_contest N name few es).each p).place in
      let lt = within p b in
      (p, lt, b, can_move plain N name es p lt under (member (w p).rec.left) (λ off a. go_done N w p a (view (w p).rec.place) at b off free))

  -- From any busy station the claims lead to one that waits for none.
  someone : (q : ℕ) → Busy plain N name es q → Someone
  someone = by_claim N w (λ p k. ((facts plain 37 Place plain_contest N name few es).each p).sound k) (Busy plain N name es) Someone within (λ p r e. grind arith) ready

pub plain_moves : NeverStuck plain
plain_moves N name es q few under b = someone N name few es under q b
