-- What holds of two stations holds after every history.
use Rattle.std.proofs.Common.{◌≡◌, ℕ, suc, ◌<◌, ◌≤◌, Bool, true, false, cond, ◌&&◌, ◌≢◌, List, [], ◌∷◌, length, sym, refl, arith}
use Rattle.boards.specs.Lines.{Line}
use Rattle.steps.specs.declared.record.Record.{Record}
use Rattle.steps.specs.Rows.{new_record}
use Rattle.steps.specs.FourLine.{four_line}
use Rattle.runs.specs.Runs.{Event, Own, State, Reply, run, reply, after, is_done, of, frees}
use Rattle.sets.proofs.SetLaws.{none_at}
use Rattle.runs.proofs.Calls.{calls, two}
use Rattle.runs.proofs.Ghost as ghost
use Rattle.runs.proofs.Ghost.{in_way, is_start}
use Rattle.runs.proofs.ContestFacts.{low}
use Rattle.runs.proofs.Four.Turns.{own_turn, num}
use Rattle.runs.proofs.Four.Facts.{Pair, came_to}
use Rattle.runs.proofs.Four.Sound.{contest, seen_as, sound}
use Rattle.runs.proofs.Four.First as first
use Rattle.runs.proofs.Four.Second as second
use Rattle.runs.proofs.Four.Rest as rest

-- Before any call.
made_pair : (q r : ℕ) (e : Bool) → Pair q r e low new_record new_record false false 0 0
made_pair q r e =
    let n = none_at (num r e) in
    let m = none_at (num r false) in
    record {
      seen = grind arith;
      ahead = grind arith;
      first = λ _. refl;
      fresh = grind arith;
      stale = grind arith;
      copied = grind arith;
      later = grind arith;
      turns_left = grind arith;
      turned = grind arith;
      indoor = grind arith;
    }

-- The same, with who is ahead and when each came to 24 written otherwise.
recast : {q r : ℕ} {e : Bool} {v : Line} {a b : Record} {pq qp pq' qp' : Bool} {ca cb ca' cb' : ℕ} → pq' ≡ pq → qp' ≡ qp → ca' ≡ ca → cb' ≡ cb
    → Pair q r e v a b pq qp ca cb → Pair q r e v a b pq' qp' ca' cb'
recast i j k l h = rw (i, j, k, l) h

-- A call that is refused changes nobody who is ahead.
refused_is : (i x y : Bool) → cond (i && false) x y ≡ y
refused_is true x y = refl
refused_is false x y = refl

module _ (N name : ℕ) (few : N ≤ 16) where
  abbrev own : List Event → ℕ → Own
  own es = (run four_line N name es).own

  abbrev ahead : List Event → ℕ → ℕ → Bool
  ahead = ghost.ahead four_line N name

  abbrev came : List Event → ℕ → ℕ
  came = ghost.came four_line N name

  abbrev Pairs : List Event → Type 0
  Pairs es =
      (q r : ℕ) → q < N → r < N → q ≢ r → (x : Bool) →
      Pair q r x (own_turn (own es q)) (own es q).rec (own es r).rec (ahead es q r) (ahead es r q) (came es q) (came es r)

  -- One more call.
  module _ (es : List Event) (h : Pairs es) where
    abbrev s : State
    s = run four_line N name es

    -- When the station that a call names last came to 24, if the call leaves o of it.
    abbrev came_now : Event → Own → ℕ
    came_now e o = came_to (suc (length es)) (own es (of e)).rec o.rec (came es (of e))

    -- After a call of the first, and of the second, that is answered so.

    abbrev FirstOf : Event → Reply → Type 0
    FirstOf e z =
        (r : ℕ) → of e < N → r < N → of e ≢ r → (x : Bool) →
        Pair (of e) r x (own_turn (after z (own es (of e)))) (after z (own es (of e))).rec (own es r).rec
        (cond (is_start e && is_done z) (in_way (own es r).rec.place) (ahead es (of e) r))
        (cond (frees e && is_done z) false (ahead es r (of e)))
        (came_now e (after z (own es (of e)))) (came es r)

    abbrev SecondOf : Event → Reply → Type 0
    SecondOf e z =
        (q : ℕ) → q < N → of e < N → q ≢ of e → (x : Bool) →
        Pair q (of e) x (own_turn (own es q)) (own es q).rec (after z (own es (of e))).rec
        (cond (frees e && is_done z) false (ahead es q (of e)))
        (cond (is_start e && is_done z) (in_way (own es q).rec.place) (ahead es (of e) q))
        (came es q) (came_now e (after z (own es (of e))))

    first_calls : (e : Event) → FirstOf e (reply four_line N name s e)
    first_calls =
        calls four_line N name s FirstOf
        (record {
          by_refusal = λ e z r ltq ltr ne x.
              recast (refused_is (is_start e) _ _) (refused_is (frees e) _ _) refl refl (rest.first_same (h (of e) r ltq ltr ne x) (suc (length es)));
          by_start = λ p lt at r ltq ltr ne x. rest.first_start (h p r ltq ltr ne x) N few ltr _ _;
          by_go = λ p k heard lt r ltq ltr ne.
              first.pair_go N (own es) p r k heard (seen_as N name few es p) _ _ _ _ (length es) ne (ghost.came_le four_line N name es r)
              ((contest N name few es).apart p r ne ltq ltr) ((contest N name few es).apart r p (λ y. ne (sym y)) ltr ltq)
              (sound N name few es p r) (sound N name few es r p) (h p r ltq ltr ne);
          by_stir = λ p lt _ r ltq ltr ne x.
              let y = h p r ltq ltr ne x in
              let t = rest.turned_stir N p r x (own es p) (own es r).rec (seen_as N name few es p) (sound N name few es p r x).copy y.turned y.indoor in
              rest.first_same (rest.other_turn y _ t) (suc (length es));
          by_fail = λ p lt r ltq ltr ne x. rest.first_fail (h p r ltq ltr ne x) _ _;
          by_take = λ p lt at r ltq ltr ne x. rest.first_same (h p r ltq ltr ne x) (suc (length es));
          by_leave = λ c lt at r ltq ltr ne x. rest.first_leave (h c.station r ltq ltr ne x) at (λ y. (sound N name few es c.station r y).copy) _;
          by_void = λ c lt r ltq ltr ne x. rest.first_same (h c.station r ltq ltr ne x) (suc (length es));
        })

    second_calls : (e : Event) → SecondOf e (reply four_line N name s e)
    second_calls =
        calls four_line N name s SecondOf
        (record {
          by_refusal = λ e z q ltq ltr ne x.
              recast (refused_is (frees e) _ _) (refused_is (is_start e) _ _) refl refl (rest.second_same (h q (of e) ltq ltr ne x) (suc (length es)));
          by_start = λ p lt at q ltq ltr ne x. rest.second_start (h q p ltq ltr ne x) N at (sound N name few es q p x).copy _;
          by_go = λ p k heard lt q ltq ltr ne.
              second.pair_go N few (own es) q p k heard (seen_as N name few es p) _ _ _ _ (length es) ltq
              (sound N name few es q p) (h q p ltq ltr ne) (h p q ltr ltq (λ y. ne (sym y)));
          by_stir = λ p lt _ q ltq ltr ne x. rest.second_same (h q p ltq ltr ne x) (suc (length es));
          by_fail = λ p lt q ltq ltr ne x. rest.second_fail (h q p ltq ltr ne x) _;
          by_take = λ p lt at q ltq ltr ne x. rest.second_same (h q p ltq ltr ne x) (suc (length es));
          by_leave = λ c lt at q ltq ltr ne x. rest.second_leave (h q c.station ltq ltr ne x) at _;
          by_void = λ c lt q ltq ltr ne x. rest.second_same (h q c.station ltq ltr ne x) (suc (length es));
        })

    -- How the call changes who is ahead, and when each came to 24.

    ahead_of : (e : Event) (r : ℕ) → r ≢ of e → ahead (e ∷ es) (of e) r ≡ cond (is_start e && is_done (reply four_line N name s e)) (in_way (own es r).rec.place) (ahead es (of e) r)
    ahead_of = ghost.ahead_of_named four_line N name es

    ahead_by : (e : Event) (q : ℕ) → q ≢ of e → ahead (e ∷ es) q (of e) ≡ cond (frees e && is_done (reply four_line N name s e)) false (ahead es q (of e))
    ahead_by = ghost.ahead_is_named four_line N name es

    came_of : (e : Event) → came (e ∷ es) (of e) ≡ came_now e (after (reply four_line N name s e) (own es (of e)))
    came_of = ghost.came_named four_line N name es

    came_else : (e : Event) (q : ℕ) → q ≢ of e → came (e ∷ es) q ≡ came es q
    came_else = ghost.came_others four_line N name es

    ahead_else : (e : Event) (q r : ℕ) → q ≢ of e → r ≢ of e → ahead (e ∷ es) q r ≡ ahead es q r
    ahead_else = ghost.ahead_others four_line N name es

    -- It is of the first, of the second or of neither.
    more : (e : Event) → Pairs (e ∷ es)
    more e q r ltq ltr ne =
        two four_line N name s
        (λ q r a b.
        q < N → r < N → q ≢ r → (x : Bool) →
        Pair q r x (own_turn a) a.rec b.rec (ahead (e ∷ es) q r) (ahead (e ∷ es) r q) (came (e ∷ es) q) (came (e ∷ es) r))
        e
        (λ r n ltq ltr ne x. recast (ahead_of e r n) (ahead_by e r n) (came_of e) (came_else e r n) (first_calls e r ltq ltr ne x))
        (λ q n ltq ltr ne x. recast (ahead_by e q n) (ahead_of e q n) (came_else e q n) (came_of e) (second_calls e q ltq ltr ne x))
        (λ q r n m ltq ltr ne x. recast (ahead_else e q r n m) (ahead_else e r q m n) (came_else e q n) (came_else e r m) (h q r ltq ltr ne x))
        q r ne ltq ltr ne

  pub pair : (es : List Event) → Pairs es
  unfolding ghost.ahead ghost.came
  pair [] = λ q r ltq ltr ne x. made_pair q r x
  pair (e ∷ es) = more es (pair es) e
