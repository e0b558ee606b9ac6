-- What a station of the four-line discipline keeps while it alone is started: all that it reads is low.
use Rattle.std.proofs.Common.{◌≡◌, ℕ, ◌*◌, ◌/◌, ◌<◌, ◌≤◌, Bool, true, false, cond, not, ◌≢◌, ◌⊎◌, refl, ap, ◌∙◌, inl, inr, arith}
use Rattle.std.proofs.lemmas.Bool.Decides.{nat_tests}
use Rattle.std.proofs.lemmas.Bool.{cases_eq}
use Rattle.boards.specs.Lines.{Line, settled}
use Rattle.sets.specs.Sets.{has}
use Rattle.steps.specs.FourLine.{four_line, view, label, odd}
use Rattle.runs.specs.Runs.{Own, new_own, went, after}
use Rattle.sets.proofs.SetLaws.{without_at, first_at, above_at, member, member_in}
use Rattle.runs.proofs.FourContest as contest
use Rattle.worked.proofs.Lone.Counting.{members}
use Rattle.worked.proofs.Lone.Alone.{Alone}

abbrev pub low : Line
low = settled false

abbrev pub high : Line
high = settled true

-- The turn of side e.
abbrev pub turn : Bool → Own → Line
turn e o = cond e o.turn1 o.turn0

abbrev pub SeenAs : Own → Type 0
SeenAs o = label (view o.rec.place) ≡ o.rec.place

-- Where it stands: it has nothing to wait for at 27, and no reason to step back at 30.
abbrev pub At : Own → Type 0
At o =
    ((22 ≤ o.rec.place) × (o.rec.place ≤ 26)) ⊎
    (((28 ≤ o.rec.place) × (o.rec.place ≤ 29)) ⊎
    ((32 ≤ o.rec.place) × (o.rec.place ≤ 37)))

-- It copies no turn.
abbrev pub Uncopied : ℕ → Own → Type 0
Uncopied k o = has o.rec.copy k ≡ false

-- Its turns are low before 25, and then to 34 that of its side e is high.
abbrev pub Unturned : Own → Type 0
Unturned o = o.rec.place ≤ 24 → (o.turn0 ≡ low) × (o.turn1 ≡ low)

abbrev pub Turned : Bool → Own → Type 0
Turned e o = (25 ≤ o.rec.place) × (o.rec.place ≤ 34) → (turn e o ≡ high) × (turn (not e) o ≡ low)

abbrev pub Side : Bool → Own → Type 0
Side e o = o.rec.place ≤ 34 → o.rec.side ≡ e

abbrev pub Shut : Own → Type 0
Shut o = 26 ≤ o.rec.place → o.door ≡ low

-- Left are at 29 stations below, and at 32 and 33 stations above.
abbrev pub Below : ℕ → ℕ → Own → Type 0
Below p k o = o.rec.place ≡ 29 → has o.rec.left k ≡ true → k < p

abbrev pub Above : ℕ → ℕ → Own → Type 0
Above p k o = (32 ≤ o.rec.place) × (o.rec.place ≤ 33) → has o.rec.left k ≡ true → p < k

abbrev pub Kept : Own → Type 0
Kept o = (o.rec.place ≡ 33) ⊎ (o.rec.place ≡ 36) → has o.rec.left o.rec.kept ≡ true

-- Idle, it has all lines low but the claim, which nobody reads.
pub record Rests (e : Bool) (o : Own) : Type 0 where
  pub door : o.door ≡ low
  pub turn0 : o.turn0 ≡ low
  pub turn1 : o.turn1 ≡ low
  pub side : o.rec.side ≡ e

-- At 22 all turn numbers are left.
abbrev pub Whole : ℕ → Own → Type 0
Whole n o = o.rec.place ≡ 22 → members o.rec.left ≡ 2 * n

pub record Fit (n p : ℕ) (e : Bool) (o : Own) : Type 0 where
  pub whole : Whole n o
  pub seen : SeenAs o
  pub at : At o
  pub uncopied : (k : ℕ) → Uncopied k o
  pub unturned : Unturned o
  pub turned : Turned e o
  pub side : Side e o
  pub shut : Shut o
  pub below : (k : ℕ) → Below p k o
  pub above : (k : ℕ) → Above p k o
  pub kept : Kept o

-- All lines of the others are low.
made_turn : (e : Bool) → turn e new_own ≡ low
made_turn true = refl
made_turn false = refl

either_turn : (e : Bool) (o : Own) → o.turn0 ≡ low → o.turn1 ≡ low → turn e o ≡ low
either_turn true o a b = b
either_turn false o a b = a

module _ (n p : ℕ) (e : Bool) (w : ℕ → Own) (alone : Alone p w) (f : Fit n p e (w p)) where
  turns_low : (w p).rec.place ≤ 24 → (q : ℕ) (x : Bool) → turn x (w q) ≡ low
  turns_low early q x =
      elim (cases_eq q p) [
        | inl same ↦ ap (λ z. turn x (w z)) same ∙ either_turn x (w p) (f.unturned early).0 (f.unturned early).1
        | inr other ↦ ap (turn x) (alone q other) ∙ made_turn x
      ]

  doors_low : 26 ≤ (w p).rec.place → (q : ℕ) → (w q).door ≡ low
  doors_low late q =
      elim (cases_eq q p) [
        | inl same ↦ ap (λ z. (w z).door) same ∙ f.shut late
        | inr other ↦ ap (λ (o : Own). o.door) (alone q other)
      ]

  claims_low : (q : ℕ) → q ≢ p → (w q).claim ≡ low
  claims_low q other = ap (λ (o : Own). o.claim) (alone q other)

seen_is : (o : Own) → At o → SeenAs o
seen_is o h = contest.seen o.rec.place (grind arith, grind arith)

module _ (n p : ℕ) (lt : p < n) (few : n ≤ 16) (w : ℕ → Own) (k : ℕ) (heard : Bool) (x : SeenAs (w p)) where
  abbrev pub now : Own
  now = after (went four_line n w p k heard) (w p)

  -- What is read at each place is low.

  abbrev pub Low23 : Type 0
  Low23 = (w p).rec.place ≡ 23 → turn (odd k) (w (k / 2)) ≡ low

  abbrev pub Low29 : Type 0
  Low29 = (w p).rec.place ≡ 29 → has (w p).rec.left k ≡ true → (w k).claim ≡ low

  abbrev pub Low33 : Type 0
  Low33 = (w p).rec.place ≡ 33 → (w (w p).rec.kept).claim ≡ low

  abbrev pub Low36 : Type 0
  Low36 = (w p).rec.place ≡ 36 → (w (w p).rec.kept).door ≡ low

  low_23 : (e : Bool) → Alone p w → Fit n p e (w p) → Low23
  low_23 e alone f at = turns_low n p e w alone f (omega arith) (k / 2) (odd k)

  pub low_29 : (e : Bool) → Alone p w → Fit n p e (w p) → Low29
  low_29 e alone f at h = let b = f.below k at h in claims_low n p e w alone f k (λ y. omega arith)

  pub low_33 : (e : Bool) → Alone p w → Fit n p e (w p) → Low33
  low_33 e alone f at = let a = f.above (w p).rec.kept (omega arith, omega arith) (f.kept (inl at)) in claims_low n p e w alone f (w p).rec.kept (λ y. omega arith)

  pub low_36 : (e : Bool) → Alone p w → Fit n p e (w p) → Low36
  low_36 e alone f at = doors_low n p e w alone f (omega arith) (w p).rec.kept

  at_go : At (w p) → ((i : ℕ) → Uncopied i (w p)) → Low29 → At now
  at_go h u l = let m = member_in (w p).rec.copy in let z = u (member (w p).rec.copy) in grind (arith, nat_tests)

  uncopied_go : (i : ℕ) → At (w p) → Uncopied i (w p) → Low23 → Uncopied i now
  uncopied_go i h u l = grind (arith, nat_tests)

  unturned_go : At (w p) → Unturned (w p) → Unturned now
  unturned_go h u = grind (arith, nat_tests)

  turned_go : (e : Bool) → At (w p) → Unturned (w p) → Turned e (w p) → Side e (w p) → Turned e now
  turned_go e h u v s = grind (arith, nat_tests)

  side_go : (e : Bool) → At (w p) → Side e (w p) → Side e now
  side_go e h s = grind (arith, nat_tests)

  shut_go : At (w p) → Shut (w p) → Shut now
  shut_go h s = grind (arith, nat_tests)

  below_go : (i : ℕ) → At (w p) → Below p i (w p) → Below p i now
  below_go i h b = grind (arith, nat_tests, without_at, first_at)

  above_go : (i : ℕ) → At (w p) → Above p i (w p) → Above p i now
  above_go i h b = grind (arith, nat_tests, without_at, above_at)

  kept_go : At (w p) → Kept (w p) → Kept now
  kept_go h b = grind (arith, nat_tests)

  whole_go : At (w p) → Whole n (w p) → Whole n now
  whole_go h b = grind (arith, nat_tests)

  pub fit_go : (e : Bool) → Alone p w → Fit n p e (w p) → Fit n p e now
  fit_go e alone f =
      let a = at_go f.at f.uncopied (low_29 e alone f) in
      record {
        whole = whole_go f.at f.whole;
        seen = seen_is now a;
        at = a;
        uncopied = λ i. uncopied_go i f.at (f.uncopied i) (low_23 e alone f);
        unturned = unturned_go f.at f.unturned;
        turned = turned_go e f.at f.unturned f.turned f.side;
        side = side_go e f.at f.side;
        shut = shut_go f.at f.shut;
        below = λ i. below_go i f.at (f.below i);
        above = λ i. above_go i f.at (f.above i);
        kept = kept_go f.at f.kept;
      }
