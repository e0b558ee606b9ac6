-- A station of the plain discipline that alone is started.
use Rattle.std.proofs.Common.{◌≡◌, ℕ, suc, ◌+◌, ◌-◌, ◌*◌, ◌<◌, ◌≤◌, Bool, true, false, cond, eqb, ◌≢◌, ◌⊎◌, refl, ap, inl, arith}
use Rattle.std.proofs.lemmas.Bool.Decides.{nat_tests}
use Rattle.boards.specs.Lines.{settled}
use Rattle.steps.specs.declared.answers.Refusal.TheVariants.{WrongPick}
use Rattle.sets.specs.Sets.{has}
use Rattle.steps.specs.Plain.{plain, view, label}
use Rattle.runs.specs.Runs.{Own, went, after, is_done, refused}
use Rattle.sets.proofs.SetLaws.{without_at, first_at, above_at, member, member_in}
use Rattle.worked.proofs.Lone.Counting.{members, members_without, members_empty, members_first, members_above}
use Rattle.worked.proofs.Lone.Alone.{Alone, Walk}

abbrev pub SeenAs : Own → Type 0
SeenAs o = label (view o.rec.place) ≡ o.rec.place

-- Where it stands.
abbrev pub At : Own → Type 0
At o = ((28 ≤ o.rec.place) × (o.rec.place ≤ 29)) ⊎ (((32 ≤ o.rec.place) × (o.rec.place ≤ 33)) ⊎ (o.rec.place ≡ 37))

-- Left are at 29 stations below, and at 32 and 33 stations above.
abbrev pub Below : ℕ → ℕ → Own → Type 0
Below p k o = o.rec.place ≡ 29 → has o.rec.left k ≡ true → k < p

abbrev pub Above : ℕ → ℕ → Own → Type 0
Above p k o = (32 ≤ o.rec.place) × (o.rec.place ≤ 33) → has o.rec.left k ≡ true → p < k

abbrev pub Kept : Own → Type 0
Kept o = o.rec.place ≡ 33 → has o.rec.left o.rec.kept ≡ true

pub record Fit (p : ℕ) (o : Own) : Type 0 where
  pub seen : SeenAs o
  pub at : At o
  pub below : (k : ℕ) → Below p k o
  pub above : (k : ℕ) → Above p k o
  pub kept : Kept o

-- How many goes it has yet to make.
abbrev pub yet_at : ℕ → ℕ → ℕ → ℕ → ℕ
yet_at n p place c = cond (eqb place 28) (2 * n + 1 - p) (cond (eqb place 29) (c + 2 * n - 2 * p) (cond (eqb place 32) (2 * c + 1) (cond (eqb place 33) (2 * c) 0)))

abbrev pub yet : ℕ → ℕ → Own → ℕ
yet n p o = yet_at n p o.rec.place (members o.rec.left)

-- All other claims are low.
claims : (p : ℕ) (w : ℕ → Own) → Alone p w → (k : ℕ) → k ≢ p → (w k).claim ≡ settled false
claims p w alone k ne = ap (λ (o : Own). o.claim) (alone k ne)

seen_is : (n : ℕ) → ((28 ≤ n) × (n ≤ 29)) ⊎ (((32 ≤ n) × (n ≤ 33)) ⊎ (n ≡ 37)) → label (view n) ≡ n
unfolding view
seen_is n h = grind (arith, nat_tests)

module _ (n p : ℕ) (lt : p < n) (few : n ≤ 16) (w : ℕ → Own) (k : ℕ) (heard : Bool) (x : SeenAs (w p)) where
  abbrev now : Own
  now = after (went plain n w p k heard) (w p)

  -- what is read is low
  abbrev Low : Type 0
  Low = ((w p).rec.place ≡ 29 → has (w p).rec.left k ≡ true → (w k).claim ≡ settled false) × ((w p).rec.place ≡ 33 → (w (w p).rec.kept).claim ≡ settled false)

  low : Alone p w → Fit p (w p) → Low
  low alone f = (
    (λ at h. let b = f.below k at h in claims p w alone k (λ e. omega arith)),
    (λ at. let a = f.above (w p).rec.kept (omega arith, omega arith) (f.kept at) in claims p w alone (w p).rec.kept (λ e. omega arith)),
  )

  at_go : At (w p) → Low → At now
  at_go h l = let a = l.0 in let b = l.1 in grind (arith, nat_tests)

  below_go : (i : ℕ) → At (w p) → Below p i (w p) → Below p i now
  below_go i h b = grind (arith, nat_tests, without_at, first_at)

  above_go : (i : ℕ) → At (w p) → Above p i (w p) → Above p i now
  above_go i h b = grind (arith, nat_tests, without_at, above_at)

  kept_go : At (w p) → Kept (w p) → Kept now
  kept_go h b = grind (arith, nat_tests)

  fit_go : Alone p w → Fit p (w p) → Fit p now
  fit_go alone f =
      let a = at_go f.at (low alone f) in
      record {
        seen = seen_is now.rec.place a;
        at = a;
        below = λ i. below_go i f.at (f.below i);
        above = λ i. above_go i f.at (f.above i);
        kept = kept_go f.at f.kept;
      }

  one_less : Low → At (w p) → Kept (w p) → is_done (went plain n w p k heard) ≡ true → suc (yet n p now) ≡ yet n p (w p)
  one_less l h b d =
      let a = l.0 in
      let c = l.1 in
      let e = members_without k (w p).rec.left in
      let f = members_without (w p).rec.kept (w p).rec.left in
      let g = members_empty (w p).rec.left in
      let i = members_first p (omega arith) in
      let j = members_above n p (omega arith) in
      grind (arith, nat_tests)

  never_waits : Low → At (w p) → (w p).rec.place ≢ 37 → (is_done (went plain n w p k heard) ≡ true) ⊎ (went plain n w p k heard ≡ refused WrongPick)
  never_waits l h off = let a = l.0 in let c = l.1 in grind (arith, nat_tests)

module _ (n p : ℕ) (lt : p < n) (few : n ≤ 16) (w : ℕ → Own) (heard : Bool) (x : SeenAs (w p)) where
  right : Low n p lt few w (member (w p).rec.left) heard x → At (w p) → (w p).rec.place ≢ 37 → is_done (went plain n w p (member (w p).rec.left) heard) ≡ true
  right l h off = let m = member_in (w p).rec.left in let a = l.0 in let c = l.1 in grind (arith, nat_tests)

not_there : (n p : ℕ) (o : Own) → 1 ≤ yet n p o → o.rec.place ≢ 37
not_there n p o y at = grind (arith, nat_tests)

there : (n p : ℕ) (o : Own) → p < n → At o → Kept o → yet n p o ≡ 0 → o.rec.place ≡ 37
there n p o lt h b y = let e = members_without o.rec.kept o.rec.left in grind (arith, nat_tests)

pub plain_walk : (n p : ℕ) → p < n → n ≤ 16 → Walk plain n p (2 * n + 1 - p) (λ o. Unit {0}) (Fit p) (yet n p)
plain_walk n p lt few = record {
  begins = λ o r e. record { seen = seen_is 28 (inl (omega arith, omega arith)); at = inl (omega arith, omega arith); below = λ k. grind arith; above = λ k. grind arith; kept = grind arith };
  all = λ o. refl;
  goes = λ w k heard alone f d. fit_go n p lt few w k heard f.seen alone f;
  one_less = λ w k heard alone f d. one_less n p lt few w k heard f.seen (low n p lt few w k heard f.seen alone f) f.at f.kept d;
  never_waits = λ w k heard alone f y. never_waits n p lt few w k heard f.seen (low n p lt few w k heard f.seen alone f) f.at (not_there n p (w p) y);
  pick = λ o. member o.rec.left;
  right_pick = λ w heard alone f y. right n p lt few w heard f.seen (low n p lt few w _ heard f.seen alone f) f.at (not_there n p (w p) y);
  there = λ o f y. there n p o lt f.at f.kept y;
  not_there = λ o f y. not_there n p o y;
}
