-- What the arguments count besides the state, from the history alone: who is ahead of whom, and when a station last came to 24.
use Rattle.std.proofs.Common.{◌≡◌, ℕ, suc, ◌≤◌, Bool, true, false, cond, ◌&&◌, eqb, leb, ◌≢◌, List, [], ◌∷◌, ◌++◌, length, sym, refl, ap, subst, arith, eq-eqb}
use Rattle.std.proofs.lemmas.Bool.Decides.{nat_tests}
use Rattle.std.proofs.lemmas.Bool.{cond_both, eqb-true}
use Rattle.steps.specs.Table.{Table}
use Rattle.runs.specs.Runs.{Event, start, stir, fail, take, go, leave, void, State, Reply, run, reply, accepted, is_accepted, is_done, before, now_at, of, frees}
use Rattle.runs.specs.Words.{Ahead, NoneSince}

-- Whether a station at this place is ahead of those that start now.
abbrev pub in_way : ℕ → Bool
in_way place = leb 25 place && leb place 37

abbrev pub is_start : Event → Bool
is_start (start p) = true
is_start (stir p) = false
is_start (fail p) = false
is_start (take p) = false
is_start (go p k a) = false
is_start (leave c) = false
is_start (void c) = false

module _ (t : Table) (N name : ℕ) where
  -- A call that is done: an accepted start, leave or fail is.
  abbrev pub is_so : List Event → Event → Bool
  is_so es e = is_done (reply t N name (run t N name es) e)

  -- Where a station stands.
  abbrev pub place_at : List Event → ℕ → ℕ
  place_at es q = ((run t N name es).own q).rec.place

  -- Whether r is ahead of q: set by each start of q, and ended by a leave or fail of r.
  unfoldable pub ahead : List Event → ℕ → ℕ → Bool
  ahead [] q r = false
  ahead (e ∷ es) q r =
      cond (is_start e && is_so es e && eqb q (of e)) (in_way (place_at es r)) (cond (frees e && is_so es e && eqb r (of e)) false (ahead es q r))

  -- Whether this call brings the station that it names from 23 to 24.
  abbrev pub comes : List Event → Event → Bool
  comes es e = eqb (before t N name (run t N name es) e) 23 && eqb (now_at t N name (run t N name es) e) 24

  -- How many calls there had been when q last came to 24, with that one.
  unfoldable pub came : List Event → ℕ → ℕ
  came [] q = 0
  came (e ∷ es) q = cond (comes es e && eqb q (of e)) (suc (length es)) (came es q)

  -- How one more call changes who is ahead: of the station named, of another whether the one named is ahead, and of two others.
  pub ahead_of_named : (es : List Event) (e : Event) (r : ℕ) → r ≢ of e
      → ahead (e ∷ es) (of e) r ≡ cond (is_start e && is_so es e) (in_way (place_at es r)) (ahead es (of e) r)
  unfolding ahead
  ahead_of_named es e r n = let x = eq-eqb (of e) (of e) refl in let y = eqb-true r (of e) in grind arith

  pub ahead_is_named : (es : List Event) (e : Event) (q : ℕ) → q ≢ of e → ahead (e ∷ es) q (of e) ≡ cond (frees e && is_so es e) false (ahead es q (of e))
  unfolding ahead
  ahead_is_named es e q n = let x = eq-eqb (of e) (of e) refl in let y = eqb-true q (of e) in grind arith

  pub ahead_others : (es : List Event) (e : Event) (q r : ℕ) → q ≢ of e → r ≢ of e → ahead (e ∷ es) q r ≡ ahead es q r
  unfolding ahead
  ahead_others es e q r n m = let x = eqb-true q (of e) in let y = eqb-true r (of e) in grind arith

  -- How one more call changes when a station last came to 24.
  pub came_named : (es : List Event) (e : Event) → came (e ∷ es) (of e) ≡ cond (comes es e) (suc (length es)) (came es (of e))
  unfolding came
  came_named es e = let x = eq-eqb (of e) (of e) refl in grind arith

  pub came_others : (es : List Event) (e : Event) (q : ℕ) → q ≢ of e → came (e ∷ es) q ≡ came es q
  unfolding came
  came_others es e q n = let x = eqb-true q (of e) in grind arith

  -- That was no later than now.
  pub came_le : (es : List Event) (q : ℕ) → came es q ≤ length es
  unfolding came
  came_le [] q = omega arith
  came_le (e ∷ es) q =
      let ih = came_le es q in
      cond_both (comes es e && eqb q (of e)) (suc (length es)) (came es q) (λ n. n ≤ suc (length es)) (λ _. omega arith) (λ _. omega arith)

  -- An accepted start, leave or fail is done, and what is done is accepted.
  start_done : (s : State) (q : ℕ) → accepted t N name s (start q) ≡ true → is_done (reply t N name s (start q)) ≡ true
  start_done s q a = grind (arith, nat_tests)

  free_done : (s : State) (e : Event) → frees e ≡ true → accepted t N name s e ≡ true → is_done (reply t N name s e) ≡ true
  free_done s (fail p) f a = grind (arith, nat_tests)
  free_done s (leave c) f a = grind (arith, nat_tests)
  free_done s (start p) f a = absurd (grind arith)
  free_done s (stir p) f a = absurd (grind arith)
  free_done s (take p) f a = absurd (grind arith)
  free_done s (go p k b) f a = absurd (grind arith)
  free_done s (void c) f a = absurd (grind arith)

  -- The calls that bear on whether r is ahead of q.
  abbrev pub Starts : ℕ → Event → Type 0
  Starts q e = e ≡ start q

  abbrev pub Frees : ℕ → Event → Type 0
  Frees r e = (frees e ≡ true) × (of e ≡ r)

  abbrev Accepted : List Event → Event → Type 0
  Accepted es e = accepted t N name (run t N name es) e ≡ true

  done_accepted : (r : Reply) → is_done r ≡ true → is_accepted r ≡ true
  done_accepted r d = grind arith

  -- The start that a test finds is one.
  start_is : (e : Event) (q : ℕ) → is_start e ≡ true → q ≡ of e → Starts q e
  start_is (start p) q x y = ap start (sym y)
  start_is (stir p) q x y = absurd (grind arith)
  start_is (fail p) q x y = absurd (grind arith)
  start_is (take p) q x y = absurd (grind arith)
  start_is (go p k a) q x y = absurd (grind arith)
  start_is (leave c) q x y = absurd (grind arith)
  start_is (void c) q x y = absurd (grind arith)

  -- Who is ahead stays so, but for an accepted start of q and an accepted leave or fail of r.
  still_ahead : (es : List Event) (e : Event) (q r : ℕ) → (Starts q e → Accepted es e → ⊥) → (Frees r e → Accepted es e → ⊥)
      → ahead es q r ≡ true → ahead (e ∷ es) q r ≡ true
  unfolding ahead
  still_ahead es e q r no_start no_end h =
      cond_both (is_start e && is_so es e && eqb q (of e)) _ _ (λ x. x ≡ true)
      (λ x. absurd (no_start (start_is e q (grind arith) (eqb-true q (of e) (grind arith))) (done_accepted _ (grind arith))))
      (λ _. cond_both (frees e && is_so es e && eqb r (of e)) _ _ (λ x. x ≡ true)
      (λ x. absurd (no_end (grind arith, sym (eqb-true r (of e) (grind arith))) (done_accepted _ (grind arith))))
      (λ _. h))

  -- An accepted start sets who is ahead.
  began_ahead : (es : List Event) (q r : ℕ) → Accepted es (start q) → (25 ≤ place_at es r) × (place_at es r ≤ 37) → ahead (start q ∷ es) q r ≡ true
  unfolding ahead
  began_ahead es q r a stood =
      let d = start_done (run t N name es) q a in
      let x = eq-eqb q q refl in
      let w : in_way (place_at es r) ≡ true = grind (arith, nat_tests) in
      rw (d, x) w

  -- From there on, by the calls since.
  ahead_since : (later earlier : List Event) (q r : ℕ) → Accepted earlier (start q) → (25 ≤ place_at earlier r) × (place_at earlier r ≤ 37)
      → NoneSince t N name (Starts q) (start q ∷ earlier) later → NoneSince t N name (Frees r) (start q ∷ earlier) later
      → ahead (later ++ (start q ∷ earlier)) q r ≡ true
  ahead_since [] earlier q r a b x y = began_ahead earlier q r a b
  ahead_since (e ∷ later) earlier q r a b x y =
      still_ahead (later ++ (start q ∷ earlier)) e q r x.0 y.0 (ahead_since later earlier q r a b x.1 y.1)

  -- Who is ahead by the history is ahead as counted.
  pub ahead_is : (es : List Event) (q r : ℕ) → Ahead t N name es q r → ahead es q r ≡ true
  ahead_is es q r h =
      subst (λ z. ahead z q r ≡ true) (sym h.split) (ahead_since h.later h.earlier q r h.started h.stood h.latest h.stays)

  -- A call that is neither keeps who is ahead by the history.
  longer : (es : List Event) (e : Event) (q r : ℕ) → (Starts q e → Accepted es e → ⊥) → (Frees r e → Accepted es e → ⊥)
      → Ahead t N name es q r → Ahead t N name (e ∷ es) q r
  longer es e q r no_start no_end a = record {
    later = e ∷ a.later;
    earlier = a.earlier;
    split = ap (λ z. e ∷ z) a.split;
    started = a.started;
    latest = (subst (λ z. Starts q e → Accepted z e → ⊥) a.split no_start, a.latest);
    stood = a.stood;
    stays = (subst (λ z. Frees r e → Accepted z e → ⊥) a.split no_end, a.stays);
  }

  -- Where q's start is the newest call.
  newest : (es : List Event) (q r : ℕ) → Accepted es (start q) → in_way (place_at es r) ≡ true → Ahead t N name (start q ∷ es) q r
  newest es q r a w = record {
    later = [];
    earlier = es;
    split = refl;
    started = a;
    latest = tt;
    stood = (grind (arith, nat_tests), grind (arith, nat_tests));
    stays = tt;
  }

  -- An accepted start of q, or leave or fail of r, is one that the test finds.
  start_found : (es : List Event) (e : Event) (q : ℕ) → Starts q e → Accepted es e → is_start e && is_so es e && eqb q (of e) ≡ true
  start_found es e q x a =
      subst (λ z. is_start z && is_so es z && eqb q (of z) ≡ true) (sym x)
      (rw (start_done (run t N name es) q (subst (Accepted es) x a), eq-eqb q q refl) refl)

  free_found : (es : List Event) (e : Event) (r : ℕ) → Frees r e → Accepted es e → frees e && is_so es e && eqb r (of e) ≡ true
  free_found es e r x a = let d = free_done (run t N name es) e x.0 a in let y = eq-eqb r (of e) (sym x.1) in let z = x.0 in grind arith

  -- And the other way: who is ahead as counted is so by the history.
  pub ahead_means : (es : List Event) (q r : ℕ) → ahead es q r ≡ true → Ahead t N name es q r
  unfolding ahead
  ahead_means [] q r = λ h. absurd (grind arith)
  ahead_means (e ∷ es) q r =
      cond_both (is_start e && is_so es e && eqb q (of e)) _ _ (λ x. x ≡ true → Ahead t N name (e ∷ es) q r)
      (λ x w.
      let y : e ≡ start q = start_is e q (grind arith) (eqb-true q (of e) (grind arith)) in
      let a : Accepted es e = done_accepted _ (grind arith) in
      subst (λ z. Ahead t N name (z ∷ es) q r) (sym y) (newest es q r (subst (Accepted es) y a) w))
      (λ x. cond_both (frees e && is_so es e && eqb r (of e)) _ _ (λ z. z ≡ true → Ahead t N name (e ∷ es) q r)
      (λ y w. absurd (grind arith))
      (λ y w.
      longer es e q r
      (λ s a. let z = start_found es e q s a in grind arith)
      (λ f a. let z = free_found es e r f a in grind arith)
      (ahead_means es q r w)))
