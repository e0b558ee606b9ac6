-- Grants and ends count the holds, for any table whose goes come to hold only at its granting place, and whose goes end no hold.
use Rattle.std.proofs.Common.{◌≡◌, ℕ, suc, ◌<◌, ◌≤◌, Bool, true, false, ◌&&◌, eqb, ◌≢◌, ◌⊎◌, List, [], ◌∷◌, sym, refl, ap, ◌∙◌, subst, inl, inr, arith}
use Rattle.std.proofs.lemmas.Bool.Decides.{nat_tests}
use Rattle.std.proofs.lemmas.Bool.{cases_eq}
use Rattle.steps.specs.declared.record.Record.{Record}
use Rattle.steps.specs.declared.contest.Contest.{Contest}
use Rattle.steps.specs.Contest.{label}
use Rattle.steps.specs.Table.{Table}
use Rattle.runs.specs.Runs.{Event, Own, State, Reply, reply, run, of, after, is_done, holds, now_at, is_go, frees, went}
use Rattle.runs.specs.Words.{Holds, Counted}
use Rattle.runs.proofs.Calls.{calls, others, named}
use Rattle.runs.proofs.ContestFacts.{Wins, contested}

module _ (t : Table) where
  -- A move from place n to place m: neither comes to hold nor ceases to; or comes to hold, at the granting place.
  abbrev pub Moved : ℕ → ℕ → Type 0
  Moved n m = ((holds t m ≡ holds t n) × (eqb m t.grant ≡ false)) ⊎ ((holds t n ≡ false) × (holds t m ≡ true) × (eqb m t.grant ≡ true))

  -- A go that is done makes such a move.
  abbrev pub Shape : Own → Reply → Type 0
  Shape o r = is_done r ≡ true → Moved o.rec.place (after r o).rec.place

  -- The rows of the contest have that shape, where who wins is granted the merge.
  pub contest_shape : Wins t.grant → (x : Contest) (N : ℕ) (w : ℕ → Own) (p k : ℕ) (a : Bool)
      → label x ≡ (w p).rec.place → Shape (w p) (contested x t.grant N w p k a)
  contest_shape wins x N w p k a at d = grind (arith, nat_tests)

  -- The shape of a table, at the places that its stations stand at.
  pub record Shaped (Place : ℕ → Type 0) : Type 0 where
    pub late : 22 ≤ t.grant
    pub starting : (N : ℕ) (s : Record) → holds t (t.starts N s).place ≡ false
    pub going : (N : ℕ) (w : ℕ → Own) (p k : ℕ) (a : Bool) → Place (w p).rec.place → Shape (w p) (went t N w p k a)

  -- Past the merge, and where no station has started, none holds.
  past : (n : ℕ) → 38 ≤ n → holds t n ≡ false
  past n h = grind (arith, nat_tests)

  resting : (n : ℕ) → 22 ≤ t.grant → n ≡ 21 → holds t n ≡ false
  resting n h e = grind (arith, nat_tests)

  -- A call that is not done counts for nothing.
  none_done : (a b : Bool) → a && false && b ≡ false
  none_done true b = refl
  none_done false b = refl

  -- What a call does to who calls: it grants a hold, ends one, or does neither. Whether it held before and after, and what is counted.
  abbrev Change : Bool → Bool → Bool → Bool → Type 0
  Change h h' grant end =
      ((h ≡ false) × (h' ≡ true) × (grant ≡ true) × (end ≡ false))
      ⊎ (((h ≡ true) × (h' ≡ false) × (grant ≡ false) × (end ≡ true))
      ⊎ ((h' ≡ h) × (grant ≡ false) × (end ≡ false)))

  -- A hold that a leave or fail may end.
  freed : (h h' : Bool) → h' ≡ false → Change h h' false h
  freed true h' e = inr (inl (refl, e, refl, refl))
  freed false h' e = inr (inr (e, refl, refl))

  -- A go grants a hold or changes none.
  moved : (d : Bool) (n m : ℕ) → (d ≡ true → Moved n m) → (d ≡ false → m ≡ n) → Change (holds t n) (holds t m) (d && eqb m t.grant) false
  moved true n m f g = elim (f refl) [ inl (same, e) ↦ inr (inr (same, e, refl)) | inr (x, y, e) ↦ inl (x, y, e, refl) ]
  moved false n m f g = inr (inr (ap (holds t) (g refl), refl, refl))

  -- A call that is not done moves no station.
  undone : (r : Reply) (o : Own) → is_done r ≡ false → (after r o).rec.place ≡ o.rec.place
  undone r o d = grind arith

  module _ (Place : ℕ → Type 0) (shape : Shaped Place) (N name : ℕ) where
    module _ (s : State) (place : (p : ℕ) → Place (s.own p).rec.place) where
      -- The same of a call and its answer.
      abbrev Changed : Event → Reply → Type 0
      Changed e r =
          Change (holds t (s.own (of e)).rec.place) (holds t (after r (s.own (of e))).rec.place)
          (is_go e && is_done r && eqb (after r (s.own (of e))).rec.place t.grant) (frees e && is_done r && holds t (s.own (of e)).rec.place)

      change : (e : Event) → Changed e (reply t N name s e)
      change =
          calls t N name s Changed
          (record {
            by_refusal = λ e x. inr (inr (refl, none_done (is_go e) _, none_done (frees e) _));
            by_start = λ p lt e. inr (inr (shape.starting N (s.own p).rec ∙ sym (resting (s.own p).rec.place shape.late e), refl, refl));
            by_go = λ p k a lt.
                let r : Reply = went t N s.own p k a in
                moved (is_done r) _ _ (shape.going N s.own p k a (place p)) (undone r (s.own p));
            by_stir = λ p lt _. inr (inr (refl, refl, refl));
            by_fail = λ p lt. freed _ _ (past 39 (omega arith));
            by_take = λ p lt _. inr (inr (refl, refl, refl));
            by_leave = λ c lt _. freed _ _ (past 38 (omega arith));
            by_void = λ c lt. inr (inr (refl, refl, refl));
          })

    module _ (places : (es : List Event) (p : ℕ) → Place ((run t N name es).own p).rec.place)
        (inside : (es : List Event) (p : ℕ) → Holds t N name es p → p < N)
        (one : (es : List Event) (p q : ℕ) → Holds t N name es p → Holds t N name es q → p ≡ q) where
      -- Who holds, after one more call: the station named, and the others.
      abbrev hold : List Event → ℕ → Bool
      hold es p = holds t ((run t N name es).own p).rec.place

      self : (es : List Event) (e : Event) → hold (e ∷ es) (of e) ≡ holds t (now_at t N name (run t N name es) e)
      self es e = ap (λ (o : Own). holds t o.rec.place) (named t N name (run t N name es) e)

      other : (es : List Event) (e : Event) (q : ℕ) → q ≢ of e → hold (e ∷ es) q ≡ hold es q
      other es e q n = ap (λ (o : Own). holds t o.rec.place) (others t N name (run t N name es) e q n)

      -- Where who calls holds as before, all do.
      all_same : (es : List Event) (e : Event) → hold (e ∷ es) (of e) ≡ hold es (of e) → (q : ℕ) → hold (e ∷ es) q ≡ hold es q
      all_same es e h q = elim (cases_eq q (of e)) [ inl y ↦ subst (λ z. hold (e ∷ es) z ≡ hold es z) (sym y) h | inr n ↦ other es e q n ]

      clash : (b : Bool) → b ≡ true → b ≡ false → ⊥
      clash b x y = grind arith

      -- Each call keeps the count.
      counted_step : (es : List Event) (e : Event) → Counted t N name es → Counted t N name (e ∷ es)
      counted_step es e c =
          let p : ℕ = of e in
          elim (change (run t N name es) (places es) e) [
            | inl g ↦
                let now : hold (e ∷ es) p ≡ true = self es e ∙ g.1 in
                elim c [
                  | inl (nobody, eq) ↦ inr (p, inside (e ∷ es) p now, now, rw g.2 (rw g.3 (ap suc eq)))
                  | inr (r, lt, h, eq) ↦
                      let n : r ≢ p = λ same. clash (hold es p) (subst (λ z. hold es z ≡ true) same h) g.0 in
                      absurd (n (one (e ∷ es) r p (other es e r n ∙ h) now))
                ]
            | inr x ↦ elim x [
              | inl d ↦ elim c [
                | inl (nobody, eq) ↦ absurd (nobody p (inside es p d.0) d.0)
                | inr (r, lt, h, eq) ↦
                    inl (
                      (λ q l u.
                          elim (cases_eq q p) [
                            | inl y ↦ clash (hold (e ∷ es) p) (subst (λ z. hold (e ∷ es) z ≡ true) y u) (self es e ∙ d.1)
                            | inr n ↦ n (one es q p (sym (other es e q n) ∙ u) d.0)
                          ]),
                      rw d.2 (rw d.3 eq),
                    )
              ]
              | inr k ↦
                  let same : (q : ℕ) → hold (e ∷ es) q ≡ hold es q = all_same es e (self es e ∙ k.0) in
                  elim c [
                    | inl (nobody, eq) ↦ inl ((λ q l u. nobody q l (sym (same q) ∙ u)), rw k.1 (rw k.2 eq))
                    | inr (r, lt, h, eq) ↦ inr (r, lt, same r ∙ h, rw k.1 (rw k.2 eq))
                  ]
            ]
          ]

      -- The count is right after every history.
      pub counted : (es : List Event) → Counted t N name es
      counted [] = inl ((λ p lt h. clash (holds t 21) h (resting 21 shape.late refl)), refl)
      counted (e ∷ es) = counted_step es e (counted es)
