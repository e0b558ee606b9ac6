-- The promise over whole runs, from the discipline's laws and the agreement of each call.
use Rattle.std.proofs.Common.{◌≡◌, ℕ, suc, ◌<◌, ◌≤◌, ◌⊎◌, List, [], ◌∷◌, Some, None, Option, sym, refl, ap, ◌∙◌, subst, inl, inr, arith}
use Rattle.std.proofs.lemmas.Bool.{both_ways}
use Rattle.boards.specs.Lines.{Meaning, Lawful}
use Rattle.steps.specs.Rows.{flag}
use Rattle.steps.specs.Table.{Table}
use Rattle.runs.specs.Runs.{State, reply, next, run, made, limit, most_stations, holds}
use Rattle.runs.specs.Words.{Counted}
use Rattle.runs.specs.Laws.{LinesApart, OneHolder, NeverStuck, InOrder, InRange}
use Rattle.junction.specs.declared.stations.Station.{Station}
use Rattle.junction.specs.declared.state.Junction.{Junction}
use Rattle.junction.specs.Wires.{hears}
use Rattle.junction.specs.Calls.{station, place, look_of}
use Rattle.junction.specs.Telling.{HolderIs}
use Rattle.junction.specs.Making.{new_junction}
use Rattle.junction.specs.Promise.{Call, call_leaves, call_answers, after, event, history, told, replied, Agrees, Holding, OthersStay, BoardServes, SafeMerge, ServedInOrder}
use Rattle.junction.proofs.Touch.{in_room}
use Rattle.junction.proofs.Agree.{alike, call_step}
use Rattle.junction.proofs.Tally.{Told, call_told}
use Rattle.junction.proofs.Bounds.{small}
use Rattle.junction.proofs.Answered.{call_answered}
use Rattle.junction.proofs.Others.{others}
use Rattle.junction.proofs.Refused.{call_stays}
use Rattle.junction.proofs.Fresh.{Agreed, from_made, told_made}

-- no call changes the junction's name
call_name : {D B : Type 0} (t : Table) (m : Meaning B) (j : Junction D B) (c : Call) → (call_leaves t m j c).name ≡ j.name
call_name t m j c = grind arith

module _ {D B : Type 0} (t : Table) (m : Meaning B) (law : Lawful m) (apart : LinesApart t) where
  names : (j : Junction D B) (cs : List Call) → (after t m j cs).name ≡ j.name
  names j [] = refl
  names j (c ∷ cs) = call_name t m (after t m j cs) c ∙ names j cs

  abbrev Ends : ℕ → Junction D B → State → Type 0
  Ends = Agreed t m law apart

  all_steps : (n : ℕ) (j : Junction D B) (cs : List Call) → Ends n j made → Ends n (after t m j cs) (run t n j.name (history t m j cs))
  all_steps n j [] h = h
  all_steps n j (c ∷ cs) h =
      let h' = all_steps n j cs h in
      let j' = after t m j cs in
      let s' = run t n j.name (history t m j cs) in
      subst (λ z. Ends n (call_leaves t m j' c) (next t n z s' (event t m j' c))) (names j cs)
      (subst (λ x. Ends x (call_leaves t m j' c) (next t x j'.name s' (event t m j' c))) h'.size
      (call_step t m law apart j' s' (subst (λ x. Ends x j' s') (sym h'.size) h') c))

  all_told : OneHolder t → (n : ℕ) (j : Junction D B) (cs : List Call) → Ends n j made → Told n j.counts made → Told n (after t m j cs).counts (run t n j.name (history t m j cs))
  all_told one n j [] h w = w
  all_told one n j (c ∷ cs) h w =
      let h' = all_steps n j cs h in
      let w' = all_told one n j cs h w in
      let j' = after t m j cs in
      let s' = run t n j.name (history t m j cs) in
      let here = subst (λ x. Ends x j' s') (sym h'.size) h' in
      let fit = small t n j.name one.merging (history t m j cs) (one.counted n j.name (history t m j cs) h'.few) h'.within in
      subst (λ z. Told n (call_leaves t m j' c).counts (next t n z s' (event t m j' c))) (names j cs)
      (subst (λ x. Told x (call_leaves t m j' c).counts (next t x j'.name s' (event t m j' c))) h'.size
      (call_told t m j' s' (alike t m law apart j' s' here) here.few (subst (λ x. Told x j'.counts s') (sym h'.size) w') fit c))

  module _ (j : Junction D B) (cs : List Call) (one : OneHolder t) (new : Ends j.size.stations j made) (counts : Told j.size.stations j.counts made) where
    abbrev n : ℕ
    n = j.size.stations

    abbrev j' : Junction D B
    j' = after t m j cs

    abbrev s' : State
    s' = told t m j cs

    end : Ends n j' s'
    end = all_steps n j cs new

    here : Ends j'.size.stations j' s'
    here = subst (λ x. Ends x j' s') (sym end.size) end

    spot : (p : ℕ) → p < n → place j' p ≡ (s'.own p).rec.place
    spot p lt = ap (λ (z : Station). z.rec.place) (end.stations p lt)

    held : (p : ℕ) → p < n → holds t (s'.own p).rec.place ≡ holds t (place j' p)
    held p lt = ap (holds t) (sym (spot p lt))

    agrees : Agrees t m j cs
    agrees =
        let tally = all_told one n j cs new counts in
        record {
          stations = end.stations;
          lines = end.lines;
          used = end.used;
          grants = tally.grants;
          ends = tally.ends;
          rounds = tally.rounds;
          seen = tally.seen;
          answers = λ c.
              subst (λ z. call_answers t m j' c ≡ replied (reply t n z s' (event t m j' c))) (names j cs)
              (subst (λ x. call_answers t m j' c ≡ replied (reply t x j'.name s' (event t m j' c))) end.size (call_answered t m j' s' (alike t m law apart j' s' here) c));
        }

    one_holder : (p q : ℕ) → Holding t m j cs p → Holding t m j cs q → p ≡ q
    one_holder p q (lp, hp) (lq, hq) = one.one n j.name (history t m j cs) p q end.few (held p lp ∙ hp) (held q lq ∙ hq)

    counted : (((p : ℕ) → Holding t m j cs p → ⊥) × (j'.counts.totals.grants ≡ j'.counts.totals.ends)) ⊎ ((p : ℕ) × Holding t m j cs p × (j'.counts.totals.grants ≡ suc j'.counts.totals.ends))
    counted = at (one.counted n j.name (history t m j cs) end.few)
      where
        at : Counted t n j.name (history t m j cs) → (((p : ℕ) → Holding t m j cs p → ⊥) × (j'.counts.totals.grants ≡ j'.counts.totals.ends)) ⊎ ((p : ℕ) × Holding t m j cs p × (j'.counts.totals.grants ≡ suc j'.counts.totals.ends))
        at (inl (nobody, e)) = inl ((λ p (lt, h). nobody p lt (held p lt ∙ h)), agrees.grants ∙ e ∙ sym agrees.ends)
        at (inr (p, lt, h, e)) = inr (p, (lt, sym (held p lt) ∙ h), agrees.grants ∙ e ∙ ap suc (sym agrees.ends))

    holder : (r : Option ℕ) → HolderIs t j' r → (p : ℕ) → Holding t m j cs p → r ≡ Some p
    holder None h p (lt, hold) = absurd (both_ways (holds t (place j' p)) (h p (subst (λ x. p < x) (sym end.size) lt)) hold)
    holder (Some q) (lq, hq) p hold = ap Some (one_holder q p (subst (λ x. q < x) end.size lq, hq) hold)

    others_stay : OthersStay t m j cs
    others_stay = record {
      stations = λ c q d. (others t m law apart j' s' here c).stations q d;
      lines = λ c q x l d at. (others t m law apart j' s' here c).lines q x l d (subst (λ z. t.number z (flag q x) ≡ Some l) (sym end.size) at);
    }

    board_serves : (again : ℕ → ℕ) → InRange t again → BoardServes t m j cs
    board_serves again range = record {
      room = λ x l at. in_room t m law apart n j'.board x l end.room at;
      reads = λ p k x lt e. range.reads n j.name (history t m j cs) p k x end.few lt (ap (λ (z : Station). t.looks n p z.rec k) (sym (end.stations p lt)) ∙ (ap (λ z. t.looks z p (station j' p).rec k) (sym end.size) ∙ e));
      settles = λ p k x v s lt e. range.settles n p (station j' p).rec k _ x v s lt (ap (λ z. t.goes z p (station j' p).rec k (hears t m j'.size.stations j'.board (look_of t m j' p k))) (sym end.size) ∙ e);
    }

    pub safe_merge : NeverStuck t → (again : ℕ → ℕ) → InRange t again → SafeMerge t m j cs
    safe_merge moving again range = record {
      agrees = agrees;
      one_holder = one_holder;
      counted = counted;
      never_stuck = λ q (lq, busy) free.
          let x = moving n j.name (history t m j cs) q end.few (subst (λ u. u < limit) end.used free) (λ e. busy (spot q lq ∙ e)) in
          (x.0, (x.1, (λ e. x.2 (sym (spot x.0 x.1) ∙ e))), x.3);
      holder = holder;
      refused_stays = λ c e h. call_stays t m again range j' e c h;
      others_stay = others_stay;
      board_serves = board_serves again range;
    }

  -- the agreement alone, which needs no more than one holder
  pub agreed : (d : D) (n name : ℕ) (b : B) → OneHolder t → (cs : List Call) → Agrees t m (new_junction t m d n name b) cs
  agreed d n name b one cs = agrees (new_junction t m d n name b) cs one (from_made t m law apart d n name b) (told_made (new_junction t m d n name b).size.stations)

  pub sound : (d : D) (n name : ℕ) (b : B) (j : Junction D B) → OneHolder t → NeverStuck t → (again : ℕ → ℕ) → InRange t again → j ≡ new_junction t m d n name b → (cs : List Call) → SafeMerge t m j cs
  sound d n name b j one moving again range mk cs =
      subst (λ x. SafeMerge t m x cs) (sym mk)
      (safe_merge (new_junction t m d n name b) cs one (from_made t m law apart d n name b) (told_made (new_junction t m d n name b).size.stations) moving again range)

pub ordered : {D B : Type 0} (t : Table) (m : Meaning B) (j : Junction D B) → ((cs : List Call) → SafeMerge t m j cs) → InOrder t → (cs : List Call) → ServedInOrder t m j cs
ordered t m j safe fair cs q r (lq, holding) lr ne ahead =
    let few : j.size.stations ≤ most_stations = j.size.few in
    fair j.size.stations j.name (history t m j cs) q r few lr ne (ap (λ (z : Station). holds t z.rec.place) (sym ((safe cs).agrees.stations q lq)) ∙ holding) ahead
