-- The plain table has the contest's rows and little else, and grants the merge to who wins there.
use Rattle.std.proofs.Common.{◌≡◌, ℕ, ◌≤◌, Bool, true, ◌⊎◌, refl, inl, inr, arith}
use Rattle.std.proofs.lemmas.Bool.Decides.{nat_tests}
use Rattle.steps.specs.declared.lines.Part.TheVariants as part
use Rattle.steps.specs.declared.plain.PlainPlace.{PlainPlace}
use Rattle.steps.specs.declared.plain.PlainPlace.TheVariants.{Idle, Contest, Merging, Failed}
use Rattle.steps.specs.Plain.{plain, view, label, looks, goes}
use Rattle.runs.specs.Runs.{Own, Reply, of_go, looked, after, went, stirs, next_go}
use Rattle.runs.proofs.ContestFacts.{Rests, Loosens}
use Rattle.runs.proofs.ContestRuns.{Row, HasContest}
use Rattle.runs.proofs.Counts.{Shape, Shaped, contest_shape}

-- The places of the table.
abbrev pub Place : ℕ → Type 0
Place n = (n ≡ 21) ⊎ (((28 ≤ n) × (n ≤ 33)) ⊎ ((37 ≤ n) × (n ≤ 39)))

-- A place is the number of its name.
pub seen : (n : ℕ) → Place n → label (view n) ≡ n
unfolding view
seen n h = grind (arith, nat_tests)

-- What a go is answered, by the place's name.
abbrev gone : PlainPlace → ℕ → (ℕ → Own) → ℕ → ℕ → Bool → Reply
gone v N w p k a = of_go (goes v N p (w p).rec k (looked w (looks v (w p).rec k) a)) (w p)

module _ (N : ℕ) (w : ℕ → Own) (p k : ℕ) (a : Bool) where
  -- Each go is one of the contest's, or outside it.
  row : (v : PlainPlace) → label v ≡ (w p).rec.place → Rests (w p) → Row 37 N w p k a (gone v N w p k a)
  row (Contest x) at r = inl (x, at, refl)
  row Idle at r = inr (grind (arith, nat_tests))
  row Merging at r = inr (grind (arith, nat_tests))
  row Failed at r = inr (grind (arith, nat_tests))

  -- A hold begins where the contest is won, and no go ends one.
  shape : (v : PlainPlace) → label v ≡ (w p).rec.place → Shape plain (w p) (gone v N w p k a)
  shape (Contest x) at d = contest_shape plain (omega arith, omega arith) x N w p k a at d
  shape Idle at d = absurd (grind arith)
  shape Merging at d = absurd (grind arith)
  shape Failed at d = grind (arith, nat_tests)

-- A go leads from one of the places to another.
goes_to : (N : ℕ) (w : ℕ → Own) (p k : ℕ) (a : Bool) → label (view (w p).rec.place) ≡ (w p).rec.place
    → Place (w p).rec.place → Place (after (went plain N w p k a) (w p)).rec.place
goes_to N w p k a x h = grind (arith, nat_tests)

-- A stir loosens the claim only where the next go settles it, or after a failure.
loosens : (N p : ℕ) (o : Own) → label (view o.rec.place) ≡ o.rec.place
    → stirs o.rec.place (next_go plain N p o.rec) part.Claim ≡ true → Loosens o.rec.place
loosens N p o x h = grind (arith, nat_tests)

pub plain_contest : HasContest plain 37 Place
plain_contest = record {
  wins = (omega arith, omega arith);
  idle = inl refl;
  released = inr (inr (omega arith, omega arith));
  failing = inr (inr (omega arith, omega arith));
  starts_at = λ N s. inr (inl (omega arith, omega arith));
  starts_low = λ N s. (omega arith, omega arith);
  goes_to = λ N w p k a h. goes_to N w p k a (seen (w p).rec.place h) h;
  rows = λ N w p k a h. row N w p k a (view (w p).rec.place) (seen (w p).rec.place h);
  loosens = λ N p o h. loosens N p o (seen o.rec.place h);
}

pub plain_shaped : Shaped plain Place
plain_shaped = record {
  late = omega arith;
  starting = λ N s. refl;
  going = λ N w p k a h. shape N w p k a (view (w p).rec.place) (seen (w p).rec.place h);
}
