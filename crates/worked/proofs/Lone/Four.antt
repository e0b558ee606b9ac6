-- How many goes a station of the four-line discipline that alone is started has yet to make.
use Rattle.std.proofs.Common.{◌≡◌, ℕ, suc, ◌+◌, ◌-◌, ◌*◌, ◌<◌, ◌≤◌, Bool, true, cond, eqb, ◌≢◌, ◌⊎◌, sym, refl, ap, ◌∙◌, inl, inr, arith}
use Rattle.std.proofs.lemmas.Bool.Decides.{nat_tests}
use Rattle.steps.specs.declared.answers.Refusal.TheVariants.{WrongPick}
use Rattle.sets.specs.Sets.{is_none}
use Rattle.sets.specs.declared.Set.{Set}
use Rattle.steps.specs.declared.contest.Contest.TheVariants.{RaiseClaim, LookBelow, LowerClaim, AwaitLower, PickAbove, AwaitAbove, Release}
use Rattle.steps.specs.declared.four_line.FourPlace.{FourPlace}
use Rattle.steps.specs.declared.four_line.FourPlace.TheVariants.{Idle, OpenDoor, CopyTurns, RaiseTurn, CloseDoor, PickTurn, AwaitTurn, Contest, LowerTurn, PickDoor, AwaitDoor, Merging, Failed, ClearClaim, ClearTurn0, ClearTurn1, RecheckDoor, AwaitRecheckedDoor, RecheckTurn, AwaitRecheckedTurn}
use Rattle.steps.specs.FourLine.{four_line, view, label, looks, goes}
use Rattle.runs.specs.Runs.{Own, Reply, went, after, is_done, refused, of_go, looked}
use Rattle.sets.proofs.SetLaws.{none_at, member, member_in}
use Rattle.runs.proofs.FourContest as contest
use Rattle.worked.proofs.Lone.Counting.{members, members_without, members_empty, members_first, members_above}
use Rattle.worked.proofs.Lone.Alone.{Walk}
use Rattle.worked.proofs.Lone.FourFit.{SeenAs, At, Uncopied, Kept, Rests, Whole, Fit, now, Low29, Low33, Low36, low_29, low_33, low_36, fit_go}

-- How many goes it has yet to make, by its place and by the number left.
abbrev pub yet_at : ℕ → ℕ → ℕ → ℕ → ℕ
yet_at n p place c =
    cond (eqb place 22) (6 * n + 8 - p)
    (cond (eqb place 23) (c + 4 * n + 7 - p)
    (cond (eqb place 24) (4 * n + 6 - p)
    (cond (eqb place 25) (4 * n + 5 - p)
    (cond (eqb place 26) (4 * n + 4 - p)
    (cond (eqb place 28) (4 * n + 3 - p)
    (cond (eqb place 29) (c + 4 * n + 2 - 2 * p)
    (cond (eqb place 32) (2 * c + 2 * n + 3)
    (cond (eqb place 33) (2 * c + 2 * n + 2)
    (cond (eqb place 34) (2 * n + 2)
    (cond (eqb place 35) (2 * c + 1)
    (cond (eqb place 36) (2 * c) 0)))))))))))

abbrev pub yet : ℕ → ℕ → Own → ℕ
yet n p o = yet_at n p o.rec.place (members o.rec.left)

module _ (n p : ℕ) (lt : p < n) (few : n ≤ 16) (w : ℕ → Own) (k : ℕ) (heard : Bool) (x : SeenAs (w p)) where
  -- The same go, by the name of the place.
  abbrev by_name : FourPlace → Reply
  by_name v = of_go (goes v n p (w p).rec k (looked w (looks v (w p).rec k) heard)) (w p)

  abbrev left : Set
  left = (w p).rec.left

  no_copy : ((i : ℕ) → Uncopied i (w p)) → is_none (w p).rec.copy ≡ true
  no_copy u = let m = member_in (w p).rec.copy in let z = u (member (w p).rec.copy) in grind arith

  abbrev Less : FourPlace → Type 0
  Less v =
      label v ≡ (w p).rec.place → Whole n (w p) → At (w p) → Kept (w p) → is_none (w p).rec.copy ≡ true → Low29 n p lt few w k heard x → is_done (by_name v) ≡ true →
      suc (yet n p (after (by_name v) (w p))) ≡ yet_at n p (label v) (members left)

  less : (v : FourPlace) → Less v
  less OpenDoor at y h b c l d = let e = y (sym at) in omega arith
  less CopyTurns at y h b c l d = let e = members_without k left in let g = members_empty left in grind (arith, nat_tests)
  less RaiseTurn at y h b c l d = omega arith
  less CloseDoor at y h b c l d = omega arith
  less PickTurn at y h b c l d = grind (arith, nat_tests)
  less (Contest RaiseClaim) at y h b c l d = let i = members_first p (omega arith) in omega arith
  less (Contest LookBelow) at y h b c l d =
      let e = members_without k left in
      let g = members_empty left in
      let j = members_above n p (omega arith) in
      let z = l (sym at) in
      grind (arith, nat_tests)
  less (Contest PickAbove) at y h b c l d = let g = members_empty left in grind (arith, nat_tests)
  less (Contest AwaitAbove) at y h b c l d = let e = members_without (w p).rec.kept left (b (inl (sym at))) in grind (arith, nat_tests)
  less LowerTurn at y h b c l d = let i = members_first n (omega arith) in omega arith
  less PickDoor at y h b c l d = let g = members_empty left in grind (arith, nat_tests)
  less AwaitDoor at y h b c l d = let e = members_without (w p).rec.kept left (b (inr (sym at))) in grind (arith, nat_tests)
  less Merging at y h b c l d = absurd (grind arith)
  less Idle at y h b c l d = absurd (grind arith)
  less AwaitTurn at y h b c l d = absurd (grind arith)
  less (Contest LowerClaim) at y h b c l d = absurd (grind arith)
  less (Contest AwaitLower) at y h b c l d = absurd (grind arith)
  less (Contest Release) at y h b c l d = absurd (grind arith)
  less Failed at y h b c l d = absurd (grind arith)
  less ClearClaim at y h b c l d = absurd (grind arith)
  less ClearTurn0 at y h b c l d = absurd (grind arith)
  less ClearTurn1 at y h b c l d = absurd (grind arith)
  less RecheckDoor at y h b c l d = absurd (grind arith)
  less AwaitRecheckedDoor at y h b c l d = absurd (grind arith)
  less RecheckTurn at y h b c l d = absurd (grind arith)
  less AwaitRecheckedTurn at y h b c l d = absurd (grind arith)

  one_less : Whole n (w p) → At (w p) → Kept (w p) → ((i : ℕ) → Uncopied i (w p)) → Low29 n p lt few w k heard x → is_done (went four_line n w p k heard) ≡ true → suc (yet n p (now n p lt few w k heard x)) ≡ yet n p (w p)
  one_less y h b u l d = less (view (w p).rec.place) x y h b (no_copy u) l d ∙ ap (λ z. yet_at n p z (members left)) x

  never_waits : At (w p) → ((i : ℕ) → Uncopied i (w p)) → Low29 n p lt few w k heard x → Low33 n p lt few w k heard x → Low36 n p lt few w k heard x → (w p).rec.place ≢ 37
      → (is_done (went four_line n w p k heard) ≡ true) ⊎ (went four_line n w p k heard ≡ refused WrongPick)
  never_waits h u l29 l33 l36 off = let m = member_in (w p).rec.copy in let z = u (member (w p).rec.copy) in grind (arith, nat_tests)

module _ (n p : ℕ) (lt : p < n) (few : n ≤ 16) (w : ℕ → Own) (heard : Bool) (x : SeenAs (w p)) where
  abbrev pick : ℕ
  pick = member (w p).rec.left

  right : At (w p) → ((i : ℕ) → Uncopied i (w p)) → Low29 n p lt few w pick heard x → Low33 n p lt few w pick heard x → Low36 n p lt few w pick heard x → (w p).rec.place ≢ 37
      → is_done (went four_line n w p pick heard) ≡ true
  right h u l29 l33 l36 off =
      let m = member_in (w p).rec.copy in
      let z = u (member (w p).rec.copy) in
      let y = member_in (w p).rec.left in
      grind (arith, nat_tests)

not_there : (n p : ℕ) (o : Own) → 1 ≤ yet n p o → o.rec.place ≢ 37
not_there n p o y at = grind (arith, nat_tests)

there : (n p : ℕ) (o : Own) → p < n → At o → Kept o → yet n p o ≡ 0 → o.rec.place ≡ 37
there n p o lt h b y = let e = members_without o.rec.kept o.rec.left in grind (arith, nat_tests)

pub four_walk : (n p : ℕ) (e : Bool) → p < n → n ≤ 16 → Walk four_line n p (6 * n + 8 - p) (Rests e) (Fit n p e) (yet n p)
four_walk n p e lt few = record {
  begins = λ o r at. record {
    whole = λ _. members_first (2 * n) (omega arith);
    seen = contest.seen 22 (omega arith, omega arith);
    at = inl (omega arith, omega arith);
    uncopied = none_at;
    unturned = λ _. (r.turn0, r.turn1);
    turned = grind arith;
    side = λ _. r.side;
    shut = grind arith;
    below = λ k. grind arith;
    above = λ k. grind arith;
    kept = grind arith;
  };
  all = λ o. refl;
  goes = λ w k heard alone f d. fit_go n p lt few w k heard f.seen e alone f;
  one_less = λ w k heard alone f d. one_less n p lt few w k heard f.seen f.whole f.at f.kept f.uncopied (low_29 n p lt few w k heard f.seen e alone f) d;
  never_waits = λ w k heard alone f y.
      never_waits n p lt few w k heard f.seen f.at f.uncopied (low_29 n p lt few w k heard f.seen e alone f)
      (low_33 n p lt few w k heard f.seen e alone f) (low_36 n p lt few w k heard f.seen e alone f) (not_there n p (w p) y);
  pick = λ o. member o.rec.left;
  right_pick = λ w heard alone f y.
      right n p lt few w heard f.seen f.at f.uncopied (low_29 n p lt few w (member (w p).rec.left) heard f.seen e alone f)
      (low_33 n p lt few w (member (w p).rec.left) heard f.seen e alone f) (low_36 n p lt few w (member (w p).rec.left) heard f.seen e alone f) (not_there n p (w p) y);
  there = λ o f y. there n p o lt f.at f.kept y;
  not_there = λ o f y. not_there n p o y;
}
