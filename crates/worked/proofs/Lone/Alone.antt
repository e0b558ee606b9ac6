-- A station that alone is started: from what each of its goes does, how many goes lead it to the merge.
use Rattle.std.proofs.Common.{◌≡◌, ℕ, suc, ◌+◌, ◌<◌, ◌≤◌, Bool, true, ◌≢◌, ◌⊎◌, List, [], ◌∷◌, length, Ok, sym, refl, ap, ◌∙◌, subst, inl, inr, arith}
use Rattle.std.proofs.lemmas.Bool.{lt-ltb, eq-eqb}
use Rattle.std.proofs.lemmas.Bool.Decides.{nat_tests}
use Rattle.boards.specs.Hold.{Hold, hold}
use Rattle.steps.specs.declared.answers.Outcome.TheVariants.{Accepted}
use Rattle.steps.specs.declared.answers.Refusal.TheVariants.{WrongPick}
use Rattle.steps.specs.Rows.{idle_place, merge_place}
use Rattle.steps.specs.Table.{Table}
use Rattle.runs.specs.Laws.{LinesApart, OneHolder}
use Rattle.runs.specs.Runs as runs
use Rattle.runs.specs.Runs.{start, go, of, Own, State, Reply, done, refused, reply, new_own, stands, limit, is_done, is_accepted}
use Rattle.runs.proofs.Calls.{others, named}
use Rattle.junction.specs.declared.stations.Station.{Station}
use Rattle.junction.specs.declared.state.Junction.{Junction}
use Rattle.junction.specs.Calls.{place, go_answers}
use Rattle.junction.specs.Promise.{Call, to_start, to_stir, to_fail, to_take, to_go, to_leave, to_void, named as named_by, after, event, told, replied, Agrees}
use Rattle.worked.specs.Lone.{OnlyOf, start_and_goes, went, AllDone, ArrivesAfter}
use Rattle.worked.proofs.Base as base
use Rattle.worked.proofs.Base.{agree, go_own, go_reply, go_used}
use Rattle.worked.proofs.Short.{done_answers}

-- All stations but p are as made.
abbrev pub Alone : ℕ → (ℕ → Own) → Type 0
Alone p w = (q : ℕ) → q ≢ p → w q ≡ new_own

-- What a station p of n keeps while it is alone, and how many goes it has yet to make, for a table t; Rests is what holds of it when idle.
pub record Walk (t : Table) (n p total : ℕ) (Rests Fit : Own → Type 0) (yet : Own → ℕ) : Type 0 where
  pub begins : (o : Own) → Rests o → o.rec.place ≡ idle_place → Fit (stands (t.starts n o.rec) o)
  pub all : (o : Own) → yet (stands (t.starts n o.rec) o) ≡ total
  pub goes : (w : ℕ → Own) (k : ℕ) (heard : Bool) → Alone p w → Fit (w p) → is_done (runs.went t n w p k heard) ≡ true → Fit (runs.after (runs.went t n w p k heard) (w p))
  pub one_less : (w : ℕ → Own) (k : ℕ) (heard : Bool) → Alone p w → Fit (w p) → is_done (runs.went t n w p k heard) ≡ true
      → suc (yet (runs.after (runs.went t n w p k heard) (w p))) ≡ yet (w p)
  pub never_waits : (w : ℕ → Own) (k : ℕ) (heard : Bool) → Alone p w → Fit (w p) → 1 ≤ yet (w p)
      → (is_done (runs.went t n w p k heard) ≡ true) ⊎ (runs.went t n w p k heard ≡ refused WrongPick)
  pub pick : Own → ℕ
  pub right_pick : (w : ℕ → Own) (heard : Bool) → Alone p w → Fit (w p) → 1 ≤ yet (w p) → is_done (runs.went t n w p (pick (w p)) heard) ≡ true
  pub there : (o : Own) → Fit o → yet o ≡ 0 → o.rec.place ≡ merge_place
  pub not_there : (o : Own) → Fit o → 1 ≤ yet o → o.rec.place ≢ merge_place

done_is : (r : Reply) → replied r ≡ Ok Accepted → is_done r ≡ true
done_is (done o) e = refl
done_is runs.waits e = absurd (grind arith)
done_is runs.idle e = absurd (grind arith)
done_is (refused x) e = absurd (grind arith)

pub done_accepted : (r : Reply) → is_done r ≡ true → is_accepted r ≡ true
done_accepted r d = grind arith

-- An accepted start, and an accepted go.
module _ (t : Table) (n name p : ℕ) (s : State) where
  start_is : replied (reply t n name s (start p)) ≡ Ok Accepted → (p < n) × (s.used < limit) × ((s.own p).rec.place ≡ idle_place)
  start_is e = (grind (arith, nat_tests), grind (arith, nat_tests), grind (arith, nat_tests))

  start_reply : p < n → s.used < limit → (s.own p).rec.place ≡ idle_place → reply t n name s (start p) ≡ done (stands (t.starts n (s.own p).rec) (s.own p))
  start_reply lt under at = rw (lt-ltb p n lt, lt-ltb s.used limit under, eq-eqb (s.own p).rec.place idle_place at) refl

  go_under : (k : ℕ) (heard : Bool) → replied (reply t n name s (go p k heard)) ≡ Ok Accepted → s.used < limit
  go_under k heard e = grind (arith, nat_tests)

module _ {D : Type 0} (t : Table) (apart : LinesApart t) (one : OneHolder t) (d : D) (N name p : ℕ) where
  abbrev j : Junction D Hold
  j = base.j t apart one d N name

  abbrev n : ℕ
  n = j.size.stations

  promised : (cs : List Call) → Agrees t hold j cs
  promised = agree t apart one d N name

  -- while only p is called, the others are as made
  named_is : (i : Junction D Hold) (c : Call) → of (event t hold i c) ≡ named_by c
  named_is i (to_start q) = refl
  named_is i (to_stir q) = refl
  named_is i (to_fail q) = refl
  named_is i (to_take q) = refl
  named_is i (to_go q k) = refl
  named_is i (to_leave c) = refl
  named_is i (to_void c) = refl

  only_alone : (earlier : List Call) → OnlyOf p earlier → Alone p (told t hold j earlier).own
  only_alone [] o q ne = refl
  only_alone (c ∷ cs) (is, o) q ne =
      others t n name (told t hold j cs) (event t hold (after t hold j cs) c) q (λ e. ne (e ∙ named_is (after t hold j cs) c ∙ is)) ∙ only_alone cs o q ne

  module _ (earlier : List Call) (only : OnlyOf p earlier) (total : ℕ) (Rests Fit : Own → Type 0) (yet : Own → ℕ) (walk : Walk t n p total Rests Fit yet) (rested : ((told t hold j earlier).own p).rec.place ≡ idle_place → Rests ((told t hold j earlier).own p)) where
    abbrev before : State
    before = told t hold j earlier

    abbrev s : List ℕ → State
    s picks = told t hold j (start_and_goes p earlier picks)

    -- after some goes
    pub record Along (picks : List ℕ) : Type 0 where
      pub inside : p < n
      pub alone : Alone p (s picks).own
      pub fit : Fit ((s picks).own p)
      pub count : yet ((s picks).own p) + length picks ≡ total
      pub used : (s picks).used ≡ suc (before.used + length picks)

    -- what a go there is answered, by the history
    abbrev heard : List ℕ → ℕ → Bool
    heard picks k = base.heard_by t (went t j p earlier picks) p k

    answered : (picks : List ℕ) → p < n → (s picks).used < limit → (k : ℕ) → go_answers t hold (went t j p earlier picks) p k ≡ replied (runs.went t n (s picks).own p k (heard picks k))
    answered picks lt under k = (promised (start_and_goes p earlier picks)).answers (to_go p k) ∙ ap replied (go_reply t n name p lt (s picks) under k (heard picks k))

    pub along : (picks : List ℕ) → AllDone t j p earlier picks → Along picks
    along [] ok =
        let x = start_is t n name p before (sym ((promised earlier).answers (to_start p)) ∙ ok) in
        let r = start_reply t n name p before x.0 x.1 x.2 in
        let own : (s []).own p ≡ stands (t.starts n (before.own p).rec) (before.own p) = named t n name before (start p) ∙ ap (λ z. runs.after z (before.own p)) r in
        record {
          inside = x.0;
          alone = λ q ne. others t n name before (start p) q ne ∙ only_alone earlier only q ne;
          fit = subst Fit (sym own) (walk.begins (before.own p) (rested x.2) x.2);
          count = let a = ap yet own in let b = walk.all (before.own p) in omega arith;
          used = let u : (s []).used ≡ suc before.used = rw (ap is_accepted r) refl in omega arith;
        }
    along (k ∷ ks) (answer, all) =
        let h = along ks all in
        let lt = h.inside in
        let under = go_under t n name p (s ks) k (heard ks k) (sym ((promised (start_and_goes p earlier ks)).answers (to_go p k)) ∙ answer) in
        let so = done_is _ (sym (answered ks lt under k) ∙ answer) in
        let own = go_own t n name p lt (s ks) under k (heard ks k) in
        let less = walk.one_less (s ks).own k (heard ks k) h.alone h.fit so in
        let c = h.count in
        let u = h.used in
        let up = go_used t n name p lt (s ks) under k (heard ks k) (done_accepted _ so) in
        record {
          inside = lt;
          alone = λ q ne. others t n name (s ks) (go p k (heard ks k)) q ne ∙ h.alone q ne;
          fit = subst Fit (sym own) (walk.goes (s ks).own k (heard ks k) h.alone h.fit so);
          count = let a = ap yet own in omega arith;
          used = omega arith;
        }

    spot : (picks : List ℕ) → p < n → place (went t j p earlier picks) p ≡ ((s picks).own p).rec.place
    spot picks lt = ap (λ (x : Station). x.rec.place) ((promised (start_and_goes p earlier picks)).stations p lt)

    under_is : (picks : List ℕ) → (went t j p earlier picks).counts.used < limit → (s picks).used < limit
    under_is picks free = subst (λ u. u < limit) (promised (start_and_goes p earlier picks)).used free

    pub arrives : ArrivesAfter t j p earlier total
    arrives = record {
      there = λ picks all e. let h = along picks all in let c = h.count in spot picks h.inside ∙ walk.there ((s picks).own p) h.fit (omega arith);
      not_before = λ picks all less at. let h = along picks all in let c = h.count in walk.not_there ((s picks).own p) h.fit (omega arith) (sym (spot picks h.inside) ∙ at);
      no_more = λ picks all. let h = along picks all in let c = h.count in omega arith;
      never_waits = λ picks all less free k.
          let h = along picks all in
          let c = h.count in
          let says = answered picks h.inside (under_is picks free) k in
          elim (walk.never_waits (s picks).own k (heard picks k) h.alone h.fit (omega arith)) [
            | inl x ↦ inl (says ∙ done_answers _ x)
            | inr x ↦ inr (says ∙ ap replied x)
          ];
      right_pick = λ picks all less free.
          let h = along picks all in
          let c = h.count in
          let k : ℕ = walk.pick ((s picks).own p) in
          (k, answered picks h.inside (under_is picks free) k ∙ done_answers _ (walk.right_pick (s picks).own (heard picks k) h.alone h.fit (omega arith)));
    }
