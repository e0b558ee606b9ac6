-- The four-line table has the contest's rows, and grants the merge to who wins there.
use Rattle.std.proofs.Common.{◌≡◌, ℕ, ◌≤◌, Bool, true, not, ◌&&◌, ◌||◌, eqb, ltb, refl, inl, inr, arith}
use Rattle.std.proofs.lemmas.Bool.Decides.{nat_tests}
use Rattle.steps.specs.declared.lines.Part.TheVariants as part
use Rattle.steps.specs.declared.contest.Contest.{Contest as Step}
use Rattle.steps.specs.declared.four_line.FourPlace.{FourPlace}
use Rattle.steps.specs.declared.four_line.FourPlace.TheVariants.{Idle, OpenDoor, CopyTurns, RaiseTurn, CloseDoor, PickTurn, AwaitTurn, Contest, LowerTurn, PickDoor, AwaitDoor, Merging, Failed, ClearClaim, ClearTurn0, ClearTurn1, RecheckDoor, AwaitRecheckedDoor, RecheckTurn, AwaitRecheckedTurn}
use Rattle.steps.specs.FourLine.{four_line, view, label, looks, goes}
use Rattle.runs.specs.Runs.{Own, Reply, of_go, looked, after, went, stirs, next_go}
use Rattle.runs.proofs.ContestFacts.{Rests, Aside, Loosens}
use Rattle.runs.proofs.ContestRuns.{Row, HasContest}
use Rattle.runs.proofs.Counts.{Shape, Shaped, contest_shape}

-- The places of the table.
abbrev pub Place : ℕ → Type 0
Place n = (21 ≤ n) × (n ≤ 46)

-- A place is the number of its name.
pub seen : (n : ℕ) → Place n → label (view n) ≡ n
unfolding view
seen n h = grind (arith, nat_tests)

-- The places outside the contest.
abbrev outside : FourPlace → Bool
outside v = ltb (label v) 28 || (ltb 33 (label v) && not (eqb (label v) 38))

-- A fact of all places is told for those of the contest, and for the others.
by_place : (P : FourPlace → Type 0) → ((x : Step) → P (Contest x)) → ((v : FourPlace) → outside v ≡ true → P v) → (v : FourPlace) → P v
by_place P within out (Contest x) = within x
by_place P within out Idle = out Idle refl
by_place P within out OpenDoor = out OpenDoor refl
by_place P within out CopyTurns = out CopyTurns refl
by_place P within out RaiseTurn = out RaiseTurn refl
by_place P within out CloseDoor = out CloseDoor refl
by_place P within out PickTurn = out PickTurn refl
by_place P within out AwaitTurn = out AwaitTurn refl
by_place P within out LowerTurn = out LowerTurn refl
by_place P within out PickDoor = out PickDoor refl
by_place P within out AwaitDoor = out AwaitDoor refl
by_place P within out Merging = out Merging refl
by_place P within out Failed = out Failed refl
by_place P within out ClearClaim = out ClearClaim refl
by_place P within out ClearTurn0 = out ClearTurn0 refl
by_place P within out ClearTurn1 = out ClearTurn1 refl
by_place P within out RecheckDoor = out RecheckDoor refl
by_place P within out AwaitRecheckedDoor = out AwaitRecheckedDoor refl
by_place P within out RecheckTurn = out RecheckTurn refl
by_place P within out AwaitRecheckedTurn = out AwaitRecheckedTurn refl

-- What a go is answered, by the place's name.
abbrev gone : FourPlace → ℕ → (ℕ → Own) → ℕ → ℕ → Bool → Reply
gone v N w p k a = of_go (goes v N p (w p).rec k (looked w (looks v (w p).rec k) a)) (w p)

module _ (N : ℕ) (w : ℕ → Own) (p k : ℕ) (a : Bool) where
  -- Outside the contest no station comes to claim, but those that have won it may go on.
  aside : (v : FourPlace) → outside v ≡ true → label v ≡ (w p).rec.place → Rests (w p) → Aside (w p) (after (gone v N w p k a) (w p))
  aside v out at r = grind (arith, nat_tests)

  -- Each go is one of the contest's, or outside it.
  row : (v : FourPlace) → label v ≡ (w p).rec.place → Rests (w p) → Row 34 N w p k a (gone v N w p k a)
  row =
      by_place (λ v. label v ≡ (w p).rec.place → Rests (w p) → Row 34 N w p k a (gone v N w p k a))
      (λ x at r. inl (x, at, refl))
      (λ v out at r. inr (aside v out at r))

  -- Nor does one come to hold the merge, or cease to.
  still : (v : FourPlace) → outside v ≡ true → label v ≡ (w p).rec.place → Shape four_line (w p) (gone v N w p k a)
  still v out at d = grind (arith, nat_tests)

  -- So a hold begins where the contest is won, and no go ends one.
  shape : (v : FourPlace) → label v ≡ (w p).rec.place → Shape four_line (w p) (gone v N w p k a)
  shape =
      by_place (λ v. label v ≡ (w p).rec.place → Shape four_line (w p) (gone v N w p k a))
      (λ x at. contest_shape four_line (omega arith, omega arith) x N w p k a at)
      still

-- A go leads from one of the places to another.
goes_to : (N : ℕ) (w : ℕ → Own) (p k : ℕ) (a : Bool) → label (view (w p).rec.place) ≡ (w p).rec.place
    → Place (w p).rec.place → Place (after (went four_line N w p k a) (w p)).rec.place
goes_to N w p k a x h = grind (arith, nat_tests)

-- A stir loosens the claim only where the next go settles it, or after a failure.
loosens : (N p : ℕ) (o : Own) → label (view o.rec.place) ≡ o.rec.place
    → stirs o.rec.place (next_go four_line N p o.rec) part.Claim ≡ true → Loosens o.rec.place
loosens N p o x h = grind (arith, nat_tests)

pub four_contest : HasContest four_line 34 Place
four_contest = record {
  wins = (omega arith, omega arith);
  idle = (omega arith, omega arith);
  released = (omega arith, omega arith);
  failing = (omega arith, omega arith);
  starts_at = λ N s. (omega arith, omega arith);
  starts_low = λ N s. (omega arith, omega arith);
  goes_to = λ N w p k a h. goes_to N w p k a (seen (w p).rec.place h) h;
  rows = λ N w p k a h. row N w p k a (view (w p).rec.place) (seen (w p).rec.place h);
  loosens = λ N p o h. loosens N p o (seen o.rec.place h);
}

pub four_shaped : Shaped four_line Place
four_shaped = record {
  late = omega arith;
  starting = λ N s. refl;
  going = λ N w p k a h. shape N w p k a (view (w p).rec.place) (seen (w p).rec.place h);
}
