-- A station that fails on the merge while its pass is out.
use Rattle.std.proofs.Common.{◌≡◌, ℕ, suc, ◌<◌, ◌≤◌, true, not, ◌&&◌, eqb, ltb, List, ◌∷◌, Ok, Err, sym, refl, ap, ◌∙◌, subst, arith}
use Rattle.std.proofs.lemmas.Bool.{lt-ltb, le-leb, eq-eqb, ltb-true, cond_both}
use Rattle.std.proofs.lemmas.Bool.Decides.{nat_tests}
use Rattle.boards.specs.Hold.{Hold, hold}
use Rattle.steps.specs.declared.answers.Outcome.TheVariants.{Accepted}
use Rattle.steps.specs.declared.answers.Refusal.{Refusal}
use Rattle.steps.specs.declared.answers.Refusal.TheVariants.{NotCurrent, StillCurrent}
use Rattle.steps.specs.Rows.{failed}
use Rattle.steps.specs.Table.{Table}
use Rattle.runs.specs.Laws.{LinesApart, OneHolder}
use Rattle.runs.specs.Runs as runs
use Rattle.runs.specs.Runs.{take, fail, leave, void, Ticket, Own, State, done, refused, reply, next, limit}
use Rattle.runs.proofs.Calls.{named}
use Rattle.junction.specs.declared.pass.Pass.{Pass}
use Rattle.junction.specs.declared.state.Junction.{Junction}
use Rattle.junction.specs.Calls.{station, place, may_take, current, take_answers, leave_answers, void_answers}
use Rattle.junction.specs.Promise.{Call, to_take, to_fail, to_leave, to_void, ticket, after, told, handing, replied}
use Rattle.worked.specs.Worked.{FailsWithPass, FailsOnMerge}
use Rattle.worked.proofs.Base as base
use Rattle.worked.proofs.Base.{agree}

-- the pass that a take answers is of that station, and a leave with it is accepted
module _ {D : Type 0} (t : Table) (j : Junction D Hold) where
  abbrev pass_of : ℕ → Pass
  pass_of p = record { name = j.name; station = p; arrival = (station j p).arrivals }

  pass_is : (p : ℕ) (c : Pass) → take_answers t hold j p ≡ Ok c → (p < j.size.stations) × (place j p ≡ 37) × (c ≡ pass_of p)
  pass_is p c =
      cond_both (ltb p j.size.stations) _ _ (λ x. x ≡ Ok c → (p < j.size.stations) × (place j p ≡ 37) × (c ≡ pass_of p))
      (λ a. cond_both (may_take t hold j p) _ _ (λ x. x ≡ Ok c → (p < j.size.stations) × (place j p ≡ 37) × (c ≡ pass_of p))
      (λ b e. (ltb-true p _ a, grind (arith, nat_tests), (cc)))
      (λ b e. absurd (grind arith)))
      (λ a e. absurd (grind arith))

  leave_is : (p : ℕ) → p < j.size.stations → place j p ≡ 37 → leave_answers t hold j (pass_of p) ≡ Ok Accepted
  leave_is p lt at = rw (lt-ltb p j.size.stations lt, eq-eqb j.name j.name refl, at, eq-eqb (station j p).arrivals (station j p).arrivals refl) refl

  pub taken_leaves : (p : ℕ) (c : Pass) → take_answers t hold j p ≡ Ok c → (c.station ≡ p) × (leave_answers t hold j c ≡ Ok Accepted)
  taken_leaves p c e =
      let x = pass_is p c e in
      (ap (λ (z : Pass). z.station) x.2, subst (λ z. leave_answers t hold j z ≡ Ok Accepted) (sym x.2) (leave_is p x.0 x.1))

  -- a refused leave or void hands the same pass back
  pub leave_back : (c : Pass) (e : Refusal) → handing (leave_answers t hold j c) ≡ Err e → leave_answers t hold j c ≡ Err (c, e)
  leave_back c e =
      cond_both (ltb c.station j.size.stations) _ _ (λ x. handing x ≡ Err e → x ≡ Err (c, e))
      (λ _. cond_both (eqb c.name j.name && current j c) _ _ (λ x. handing x ≡ Err e → x ≡ Err (c, e)) (λ _ h. absurd (grind arith)) (λ _ h. cc))
      (λ _ h. cc)

  pub void_back : (c : Pass) (e : Refusal) → handing (void_answers t hold j c) ≡ Err e → void_answers t hold j c ≡ Err (c, e)
  void_back c e =
      cond_both (ltb c.station j.size.stations) _ _ (λ x. handing x ≡ Err e → x ≡ Err (c, e))
      (λ _. cond_both (eqb c.name j.name && not (current j c)) _ _ (λ x. handing x ≡ Err e → x ≡ Err (c, e)) (λ _ h. absurd (grind arith)) (λ _ h. cc))
      (λ _ h. cc)

  pub void_through : (c : Pass) → handing (void_answers t hold j c) ≡ Ok Accepted → void_answers t hold j c ≡ Ok Accepted
  void_through c =
      cond_both (ltb c.station j.size.stations) _ _ (λ x. handing x ≡ Ok Accepted → x ≡ Ok Accepted)
      (λ _. cond_both (eqb c.name j.name && not (current j c)) _ _ (λ x. handing x ≡ Ok Accepted → x ≡ Ok Accepted) (λ _ h. refl) (λ _ h. absurd (grind arith)))
      (λ _ h. absurd (grind arith))

-- what calls are answered at 37 and at 39
module _ (t : Table) (n name : ℕ) (s : State) where
  fail_reply : (p : ℕ) → p < n → s.used < limit → (s.own p).rec.place ≡ 37 → reply t n name s (fail p) ≡ done (runs.stands failed (s.own p))
  fail_reply p lt under at = rw (lt-ltb p n lt, lt-ltb s.used limit under, at) refl

  void_early : (c : Ticket) → c.station < n → eqb c.name name ≡ true → (s.own c.station).rec.place ≡ 37 → c.arrival ≡ (s.own c.station).arrivals → reply t n name s (void c) ≡ refused StillCurrent
  void_early c lt e at same = rw (lt-ltb c.station n lt, e, at, eq-eqb c.arrival (s.own c.station).arrivals same) refl

  leave_late : (c : Ticket) → c.station < n → eqb c.name name ≡ true → (s.own c.station).rec.place ≡ 39 → reply t n name s (leave c) ≡ refused NotCurrent
  leave_late c lt e at = rw (lt-ltb c.station n lt, e, at) refl

  void_late : (c : Ticket) → c.station < n → eqb c.name name ≡ true → (s.own c.station).rec.place ≡ 39 → reply t n name s (void c) ≡ done (s.own c.station)
  void_late c lt e at = rw (lt-ltb c.station n lt, e, at) refl

-- the same by the history
module _ (t : Table) (early : t.grant ≤ 37) (n name : ℕ) (s : State) (c : Ticket) (under : s.used < limit) where
  abbrev p : ℕ
  p = c.station

  -- a leave with it is accepted
  abbrev Good : Type 0
  Good = (p < n) × (eqb c.name name ≡ true) × ((s.own p).rec.place ≡ 37) × (c.arrival ≡ (s.own p).arrivals)

  pub good : replied (reply t n name s (leave c)) ≡ Ok Accepted → Good
  good h = (grind (arith, nat_tests), grind (arith, nat_tests), grind (arith, nat_tests), grind (arith, nat_tests))

  module _ (g : Good) where
    abbrev s1 : State
    s1 = next t n name s (take p)

    abbrev s2 : State
    s2 = next t n name s1 (fail p)

    s1_rec : ((s1.own p).rec.place ≡ 37) × ((s1.own p).arrivals ≡ (s.own p).arrivals)
    s1_rec = let x = eq-eqb p p refl in let y = g.2 in (grind (arith, nat_tests), grind (arith, nat_tests))

    failing : reply t n name s1 (fail p) ≡ done (runs.stands failed (s1.own p))
    failing = fail_reply t n name s1 p g.0 under s1_rec.0

    s2_own : s2.own p ≡ runs.stands failed (s1.own p)
    s2_own = named t n name s1 (fail p) ∙ ap (λ r. runs.after r (s1.own p)) failing

    pub still_current : reply t n name s1 (void c) ≡ refused StillCurrent
    still_current = void_early t n name s1 c g.0 g.1 s1_rec.0 (g.3 ∙ sym s1_rec.1)

    pub ends : s2.ends ≡ suc s.ends
    ends = rw (ap runs.is_done failing) (rw (s1_rec.0, le-leb t.grant 37 early) refl)

    pub not_current : reply t n name s2 (leave c) ≡ refused NotCurrent
    not_current = leave_late t n name s2 c g.0 g.1 (ap (λ (o : Own). o.rec.place) s2_own)

    pub voided : reply t n name s2 (void c) ≡ done (s2.own p)
    voided = void_late t n name s2 c g.0 g.1 (ap (λ (o : Own). o.rec.place) s2_own)

pub fails_with_pass : {D : Type 0} (t : Table) (apart : LinesApart t) (one : OneHolder t) (d : D) (N name : ℕ) (cs : List Call) (p : ℕ)
    → FailsWithPass t (after t hold (base.j t apart one d N name) cs) p
fails_with_pass t apart one d N name cs p c free e =
    let j = base.j t apart one d N name in
    let n : ℕ = j.size.stations in
    let s : State = told t hold j cs in
    let j' = after t hold j cs in
    let promised = agree t apart one d N name in
    let under : s.used < limit = subst (λ u. u < limit) (promised cs).used free in
    let x = taken_leaves t j' p c e in
    let g = good t one.merging n name s (ticket c) under (sym ((promised cs).answers (to_leave c)) ∙ ap handing x.1) in
    subst (λ q. FailsOnMerge t j' q c) x.0
    (record {
      still_current = void_back t (after t hold j (to_take c.station ∷ cs)) c StillCurrent
          ((promised (to_take c.station ∷ cs)).answers (to_void c) ∙ ap replied (still_current t one.merging n name s (ticket c) under g));
      ends = (promised (to_fail c.station ∷ to_take c.station ∷ cs)).ends ∙ ends t one.merging n name s (ticket c) under g ∙ ap suc (sym (promised cs).ends);
      not_current = leave_back t (after t hold j (to_fail c.station ∷ to_take c.station ∷ cs)) c NotCurrent
          ((promised (to_fail c.station ∷ to_take c.station ∷ cs)).answers (to_leave c) ∙ ap replied (not_current t one.merging n name s (ticket c) under g));
      voided = void_through t (after t hold j (to_fail c.station ∷ to_take c.station ∷ cs)) c
          ((promised (to_fail c.station ∷ to_take c.station ∷ cs)).answers (to_void c) ∙ ap replied (voided t one.merging n name s (ticket c) under g));
    })
