-- What a call may do, for any table: the few answers it may get, and that it changes no station but the one that it names.
use Rattle.std.proofs.Common.{◌≡◌, ℕ, ◌<◌, Bool, true, false, cond, not, ◌&&◌, eqb, ltb, ◌≢◌, sym, refl, subst, arith, ltb-true, eq-eqb}
use Rattle.std.proofs.lemmas.Bool.{cond_both, eqb-true}
use Rattle.steps.specs.declared.answers.Refusal.{Refusal}
use Rattle.steps.specs.declared.answers.Refusal.TheVariants as ref
use Rattle.steps.specs.Rows.{idle_place, merge_place, release_place, failed_place, failed, to_number}
use Rattle.steps.specs.Table.{Table}
use Rattle.runs.specs.Runs.{Event, start, stir, fail, take, go, leave, void, Ticket, Own, State, Reply, done, refused, reply, next, limit, of, after, went, next_go, settles_some, stirred, stands, takes, current}

and_left : (a b : Bool) → a && b ≡ true → a ≡ true
and_left true b e = refl
and_left false b e = e

and_right : (a b : Bool) → a && b ≡ true → b ≡ true
and_right true b e = e
and_right false b e = absurd (grind arith)

module _ (t : Table) (N name : ℕ) (s : State) where
  -- A fact of each call and of its answer, told for the few answers that there are.
  pub record Answered (P : Event → Reply → Type 0) : Type 0 where
    pub by_refusal : (e : Event) (x : Refusal) → P e (refused x)
    pub by_start : (p : ℕ) → p < N → (s.own p).rec.place ≡ idle_place → P (start p) (done (stands (t.starts N (s.own p).rec) (s.own p)))
    pub by_go : (p k : ℕ) (a : Bool) → p < N → P (go p k a) (went t N s.own p k a)
    pub by_stir : (p : ℕ) → p < N → settles_some (next_go t N p (s.own p).rec) ≡ true → P (stir p) (done (stirred t N p (s.own p)))
    pub by_fail : (p : ℕ) → p < N → P (fail p) (done (stands failed (s.own p)))
    pub by_take : (p : ℕ) → p < N → (s.own p).rec.place ≡ merge_place → P (take p) (done (takes (s.own p)))
    pub by_leave : (c : Ticket) → c.station < N → (s.own c.station).rec.place ≡ merge_place
        → P (leave c) (done (stands (to_number release_place (s.own c.station).rec) (s.own c.station)))
    pub by_void : (c : Ticket) → c.station < N → P (void c) (done (s.own c.station))

  module _ (P : Event → Reply → Type 0) (h : Answered P) where
    -- A call on a station that is there.
    at_known : (e : Event) (p : ℕ) (r : Reply) → (p < N → P e r) → P e (cond (ltb p N) r (refused ref.NoStation))
    at_known e p r f = cond_both (ltb p N) r (refused ref.NoStation) (P e) (λ x. f (ltb-true p N x)) (λ _. h.by_refusal e ref.NoStation)

    -- One that the limit allows too.
    at_allowed : (e : Event) (p : ℕ) (r : Reply) → (p < N → P e r) → P e (cond (ltb p N) (cond (ltb s.used limit) r (refused ref.Limit)) (refused ref.NoStation))
    at_allowed e p r f = at_known e p _ (λ lt. cond_both (ltb s.used limit) r (refused ref.Limit) (P e) (λ _. f lt) (λ _. h.by_refusal e ref.Limit))

    -- The fact holds of every call.
    pub calls : (e : Event) → P e (reply t N name s e)
    calls (start p) =
        at_allowed (start p) p _
        (λ lt. cond_both (eqb (s.own p).rec.place idle_place) _ _ (P (start p)) (λ x. h.by_start p lt (eqb-true _ idle_place x)) (λ _. h.by_refusal (start p) ref.NotIdle))
    calls (go p k a) = at_allowed (go p k a) p _ (h.by_go p k a)
    calls (stir p) =
        at_allowed (stir p) p _
        (λ lt. cond_both (settles_some (next_go t N p (s.own p).rec)) _ _ (P (stir p)) (h.by_stir p lt) (λ _. h.by_refusal (stir p) ref.NothingToSettle))
    calls (fail p) =
        at_allowed (fail p) p _
        (λ lt. cond_both (eqb (s.own p).rec.place failed_place) _ _ (P (fail p)) (λ _. h.by_refusal (fail p) ref.HasFailed) (λ _. h.by_fail p lt))
    calls (take p) =
        at_known (take p) p _
        (λ lt. cond_both (eqb (s.own p).rec.place merge_place && not (s.own p).taken) _ _ (P (take p))
        (λ x. h.by_take p lt (eqb-true _ merge_place (and_left _ _ x)))
        (λ _. h.by_refusal (take p) ref.NoPass))
    calls (leave c) =
        at_known (leave c) c.station _
        (λ lt. cond_both (eqb c.name name && current (s.own c.station) c) _ _ (P (leave c))
        (λ x. h.by_leave c lt (eqb-true _ merge_place (and_left _ _ (and_right (eqb c.name name) _ x))))
        (λ _. h.by_refusal (leave c) ref.NotCurrent))
    calls (void c) =
        at_known (void c) c.station _
        (λ lt. cond_both (eqb c.name name && not (current (s.own c.station) c)) _ _ (P (void c)) (λ _. h.by_void c lt) (λ _. h.by_refusal (void c) ref.StillCurrent))

  -- A fact of each station, told for what a call may leave of the one that it names.
  pub record Kept (P : ℕ → Own → Type 0) : Type 0 where
    pub as_it_is : (p : ℕ) → P p (s.own p)
    pub started : (p : ℕ) → p < N → (s.own p).rec.place ≡ idle_place → P p (stands (t.starts N (s.own p).rec) (s.own p))
    pub gone : (p k : ℕ) (a : Bool) → p < N → P p (after (went t N s.own p k a) (s.own p))
    pub stirs : (p : ℕ) → p < N → settles_some (next_go t N p (s.own p).rec) ≡ true → P p (stirred t N p (s.own p))
    pub fails : (p : ℕ) → p < N → P p (stands failed (s.own p))
    pub taken : (p : ℕ) → p < N → (s.own p).rec.place ≡ merge_place → P p (takes (s.own p))
    pub left : (p : ℕ) → p < N → (s.own p).rec.place ≡ merge_place → P p (stands (to_number release_place (s.own p).rec) (s.own p))

  -- The fact holds of what any call leaves of the station that it names.
  pub kept : (P : ℕ → Own → Type 0) → Kept P → (e : Event) → P (of e) (after (reply t N name s e) (s.own (of e)))
  kept P h =
      calls (λ e r. P (of e) (after r (s.own (of e))))
      (record {
        by_refusal = λ e x. h.as_it_is (of e);
        by_start = h.started;
        by_go = h.gone;
        by_stir = h.stirs;
        by_fail = h.fails;
        by_take = h.taken;
        by_leave = λ c. h.left c.station;
        by_void = λ c lt. h.as_it_is c.station;
      })

  -- A call changes no station but the one that it names.
  pub others : (e : Event) (q : ℕ) → q ≢ of e → (next t N name s e).own q ≡ s.own q
  others e q n =
      cond_both (eqb q (of e)) (after (reply t N name s e) (s.own (of e))) (s.own q) (λ o. o ≡ s.own q) (λ x. absurd (n (eqb-true q (of e) x))) (λ _. refl)

  pub named : (e : Event) → (next t N name s e).own (of e) ≡ after (reply t N name s e) (s.own (of e))
  named e = rw (eq-eqb (of e) (of e) refl) refl

  -- A fact of each station after a call: of the one that is named, and of the others as they were.
  pub one : (J : ℕ → Own → Type 0) (e : Event) → J (of e) (after (reply t N name s e) (s.own (of e)))
      → ((q : ℕ) → q ≢ of e → J q (s.own q)) → (q : ℕ) → J q ((next t N name s e).own q)
  one J e mover rest q =
      cond_both (eqb q (of e)) (after (reply t N name s e) (s.own (of e))) (s.own q) (J q)
      (λ x. subst (λ z. J z (after (reply t N name s e) (s.own (of e)))) (sym (eqb-true q (of e) x)) mover)
      (λ x. rest q (λ y. let z = eq-eqb q (of e) y in grind arith))

  -- A fact of each two stations after a call: the first is named, or the second, or neither.
  pub two : (K : ℕ → ℕ → Own → Own → Type 0) (e : Event)
      → ((r : ℕ) → r ≢ of e → K (of e) r (after (reply t N name s e) (s.own (of e))) (s.own r))
      → ((q : ℕ) → q ≢ of e → K q (of e) (s.own q) (after (reply t N name s e) (s.own (of e))))
      → ((q r : ℕ) → q ≢ of e → r ≢ of e → K q r (s.own q) (s.own r))
      → (q r : ℕ) → q ≢ r → K q r ((next t N name s e).own q) ((next t N name s e).own r)
  two K e first second neither q r apart =
      one (λ x a. x ≢ r → K x r a ((next t N name s e).own r)) e
      (λ n. subst (K (of e) r _) (sym (others e r (λ x. n (sym x)))) (first r (λ x. n (sym x))))
      (λ x nx ne. one (λ y b. x ≢ y → K x y (s.own x) b) e (λ _. second x nx) (λ y ny _. neither x y nx ny) r ne)
      q apart
