-- Of two stations, 0 has raised its turn when 1 starts: 1 waits behind 0.
use Rattle.std.proofs.Common.{◌≡◌, ℕ, zero, suc, ◌<◌, ◌≤◌, true, false, ltb, List, [], ◌∷◌, ◌++◌, sym, refl, ap, ◌∙◌, subst, inl, inr, arith}
use Rattle.std.proofs.lemmas.Bool.{cases_Bool, ltb-true}
use Rattle.boards.specs.Hold.{Hold, hold, hold_lawful}
use Rattle.steps.specs.declared.lines.Part.TheVariants.{Turn}
use Rattle.disciplines.specs.declared.four_line.FourLine.{FourLine}
use Rattle.steps.specs.declared.record.Record.{Record}
use Rattle.steps.specs.Rows.{new_record, flag}
use Rattle.sets.specs.Sets.{has}
use Rattle.steps.specs.FourLine.{four_line}
use Rattle.runs.specs.Runs as runs
use Rattle.runs.specs.Runs.{start, stir, go, Own, State, new_own, stands, limit}
use Rattle.runs.proofs.Calls.{others, named}
use Rattle.runs.proofs.LinesApart.{four_lines}
use Rattle.junction.specs.declared.stations.Station.{Station}
use Rattle.junction.specs.declared.state.Junction.{Junction}
use Rattle.junction.specs.Calls.{station, place, go_answers}
use Rattle.junction.specs.Promise.{Call, to_start, to_stir, to_fail, to_take, to_go, to_leave, to_void, after, told, replied, Agrees}
use Rattle.worked.specs.Lone.{start_and_goes}
use Rattle.worked.specs.Behind.{At25, since, Stays, WaitsBehind}
use Rattle.worked.specs.Worked.{four_line_junction}
use Rattle.runs.proofs.Tables.{four_one}
use Rattle.worked.proofs.Base.{agree, go_reply, go_own, heard_by}
use Rattle.junction.specs.Wires.{hears}
use Rattle.worked.proofs.Short.{done_answers}
use Rattle.worked.proofs.Behind.TurnLine.{turn_line, Fits, LastHigh, by_start, by_go, by_stir, refused_for, fits_settled, last_settled, last_loosened, hears_23, hears_27}
use Rattle.worked.proofs.Lone.Alone as lone
use Rattle.worked.proofs.Lone.FourFit.{high, Rests, Fit}
use Rattle.worked.proofs.Lone.Four.{yet, four_walk}
use Rattle.worked.proofs.Behind.Steps.{InWay, Raised, Behind, high_go, waits_27, pick, moves}
use Rattle.worked.proofs.Behind.Two.{Two, seen_0, seen_1, reads_27, two_go_0, two_go_1, two_stir_0, two_stir_1, two_other, starts_1, begins, only_0}

module _ (name : ℕ) (picks : List ℕ) (at-25 : At25 (four_line_junction 2 name) picks) where
  abbrev j : Junction FourLine Hold
  j = four_line_junction 2 name

  promised : (cs : List Call) → Agrees four_line hold j cs
  promised = agree four_line four_lines four_one (record {}) 2 name

  abbrev calls : List Call → List Call
  calls later = later ++ (to_start 1 ∷ start_and_goes 0 [] picks)

  abbrev s : List Call → State
  s later = told four_line hold j (calls later)

  abbrev before : State
  before = told four_line hold j (start_and_goes 0 [] picks)

  spot : (cs : List Call) (p : ℕ) → p < 2 → place (after four_line hold j cs) p ≡ ((told four_line hold j cs).own p).rec.place
  spot cs p lt = ap (λ (x : Station). x.rec.place) ((promised cs).stations p lt)

  rests_made : Rests false new_own
  rests_made = record { door = refl; turn0 = refl; turn1 = refl; side = refl }

  along : lone.Along {D = FourLine} four_line four_lines four_one (record {}) 2 name 0 [] tt 20 (Rests false) (Fit 2 0 false) (yet 2 0) (four_walk 2 0 false (omega arith) (omega arith)) (λ _. rests_made) picks
  along = lone.along {D = FourLine} four_line four_lines four_one (record {}) 2 name 0 [] tt 20 (Rests false) (Fit 2 0 false) (yet 2 0) (four_walk 2 0 false (omega arith) (omega arith)) (λ _. rests_made) picks at-25.0

  at_25_here : (before.own 0).rec.place ≡ 25
  at_25_here = sym (spot (start_and_goes 0 [] picks) 0 (omega arith)) ∙ at-25.1

  two_begin : Two (s []).own
  two_begin =
      let fit = along.fit in
      let at = at_25_here in
      let same = others four_line 2 name before (start 1) 0 (λ e. omega arith) in
      let count = along.count in
      let used = along.used in
      let begun : (s []).own 1 ≡ stands (four_line.starts 2 new_record) new_own = named four_line 2 name before (start 1) ∙ ap (λ r. runs.after r (before.own 1)) (starts_1 name before (omega arith) (along.alone 1 (λ e. omega arith))) in
      record {
        in_way = subst InWay (sym same) (omega arith, omega arith);
        raised = subst Raised (sym same) (λ i. (fit.side (omega arith), inl (fit.turned i).0, (fit.turned i).1));
        behind = subst Behind (sym begun) begins;
      }

  -- The board has the lines of both, throughout.
  fits_before : (ks : List ℕ) → Fits (after four_line hold j (start_and_goes 0 [] ks)).size.stations (after four_line hold j (start_and_goes 0 [] ks)).board
  fits_before [] = by_start Fits j 0 (refl, omega arith)
  fits_before (k ∷ ks) = by_go Fits (after four_line hold j (start_and_goes 0 [] ks)) 0 (fits_before ks) (λ x v. fits_settled _ _ (flag 0 x) v (fits_before ks)) k

  abbrev On : (ℕ → Hold → Type 0) → List Call → Type 0
  On Q later = Q (since j picks later).size.stations (since j picks later).board

  -- Where the history has the turn high, it was last settled so.
  last_is : (later : List Call) → On Fits later → ((s later).own 0).turn0 ≡ high → On LastHigh later
  last_is later f e =
      let room = f.1 in
      (f, hold_lawful.settled_answers (since j picks later).board turn_line true (omega arith) ((promised (calls later)).lines 0 (Turn false) turn_line refl ∙ e))

  record Now (later : List Call) : Type 0 where
    own : Two (s later).own
    line : On LastHigh later

  begin : Now []
  begin =
      let same = others four_line 2 name before (start 1) 0 (λ e. omega arith) in
      let fits : On Fits [] = by_start Fits (after four_line hold j (start_and_goes 0 [] picks)) 1 (fits_before picks) in
      record { own = two_begin; line = last_is [] fits (ap (λ (o : Own). o.turn0) same ∙ (along.fit.turned (omega (arith, at_25_here), omega (arith, at_25_here))).0) }

  -- What a go of station 1 is answered, by the history.
  answered : (later : List Call) → (since j picks later).counts.used < limit → (k : ℕ)
      → go_answers four_line hold (since j picks later) 1 k ≡ replied (runs.went four_line 2 (s later).own 1 k (heard_by four_line (since j picks later) 1 k))
  answered later free k =
      let under : (s later).used < limit = subst (λ u. u < limit) (promised (calls later)).used free in
      (promised (calls later)).answers (to_go 1 k) ∙ ap replied (go_reply four_line 2 name 1 (omega arith) (s later) under k (heard_by four_line (since j picks later) 1 k))

  same_record : (later : List Call) → (station (since j picks later) 1).rec ≡ ((s later).own 1).rec
  same_record later = ap (λ (x : Station). x.rec) ((promised (calls later)).stations 1 (omega arith))

  hears_27_at : (later : List Call) → On LastHigh later → (k : ℕ) → ((s later).own 1).rec.place ≡ 27 → ((s later).own 1).rec.kept ≡ 0 → heard_by four_line (since j picks later) 1 k ≡ true
  hears_27_at later line k at kept =
      let i = since j picks later in
      subst (λ r. hears four_line hold i.size.stations i.board (four_line.looks i.size.stations 1 r k) ≡ true) (sym (same_record later))
      (hears_27 i.size.stations i.board ((s later).own 1).rec k line at kept)

  hears_23_at : (later : List Call) → On LastHigh later → (k : ℕ) → ((s later).own 1).rec.place ≡ 23 → has ((s later).own 1).rec.left 0 ≡ true → k ≡ 0 → heard_by four_line (since j picks later) 1 k ≡ true
  hears_23_at later line k at l zero-k =
      let i = since j picks later in
      subst (λ r. hears four_line hold i.size.stations i.board (four_line.looks i.size.stations 1 r k) ≡ true) (sym (same_record later))
      (subst (λ z. hears four_line hold i.size.stations i.board (four_line.looks i.size.stations 1 ((s later).own 1).rec z) ≡ true) (sym zero-k)
      (hears_23 i.size.stations i.board ((s later).own 1).rec line at l))

  -- One more call.
  module _ (later : List Call) (now : Now later) where
    abbrev i : Junction FourLine Hold
    i = since j picks later

    in_way_after : (c : Call) → 25 ≤ place (since j picks (c ∷ later)) 0 → place (since j picks (c ∷ later)) 0 ≤ 34 → InWay ((s (c ∷ later)).own 0)
    in_way_after c lo hi = let here = spot (calls (c ∷ later)) 0 (omega arith) in (omega arith, omega arith)

    -- a go of station 0 leaves its turn high, or is refused for the limit
    line_go_0 : (k : ℕ) → InWay ((s (to_go 0 k ∷ later)).own 0) → On LastHigh (to_go 0 k ∷ later)
    line_go_0 k way =
        elim (cases_Bool (ltb i.counts.used limit)) [
          | inl free ↦
              let under : (s later).used < limit = subst (λ u. u < limit) (promised (calls later)).used (ltb-true i.counts.used limit free) in
              let own = go_own four_line 2 name 0 (omega arith) (s later) under k (heard_by four_line i 0 k) in
              last_is (to_go 0 k ∷ later) (by_go Fits i 0 now.line.0 (λ x v. fits_settled _ _ (flag 0 x) v now.line.0) k)
              (ap (λ (o : Own). o.turn0) own ∙ high_go 2 (s later).own k (heard_by four_line i 0 k) (seen_0 (s later).own now.own) now.own.in_way now.own.raised (subst InWay own way))
          | inr full ↦ refused_for LastHigh i 0 now.line full k
        ]

    line_go : (p k : ℕ) → 1 ≤ p → On LastHigh (to_go p k ∷ later)
    line_go p k some = by_go LastHigh i p now.line (λ x v. last_settled _ p _ x v some now.line) k

    line_stir : (p : ℕ) → On LastHigh (to_stir p ∷ later)
    line_stir p = by_stir LastHigh i p now.line (λ b x h. last_loosened _ b (flag p x) h)

    now_go : (p k : ℕ) → InWay ((s (to_go p k ∷ later)).own 0) → Now (to_go p k ∷ later)
    now_go zero k way = record { own = two_go_0 name (s later) now.own k _ way; line = line_go_0 k way }
    now_go (suc zero) k way = record { own = two_go_1 name (s later) now.own k _ (hears_23_at later now.line k) (hears_27_at later now.line k) way; line = line_go 1 k (omega arith) }
    now_go (suc (suc p)) k way = record { own = two_other name (s later) now.own (go (suc (suc p)) k _) (omega arith) way; line = line_go (suc (suc p)) k (omega arith) }

    now_stir : (p : ℕ) → InWay ((s (to_stir p ∷ later)).own 0) → Now (to_stir p ∷ later)
    now_stir zero way = record { own = two_stir_0 name (s later) now.own way; line = line_stir 0 }
    now_stir (suc zero) way = record { own = two_stir_1 name (s later) now.own way; line = line_stir 1 }
    now_stir (suc (suc p)) way = record { own = two_other name (s later) now.own (stir (suc (suc p))) (omega arith) way; line = line_stir (suc (suc p)) }

  now_is : (later : List Call) → Stays j picks later → Now later
  now_is [] st = begin
  now_is (to_go p k ∷ later) (_, lo, hi, st) = let now = now_is later st in now_go later now p k (in_way_after later now (to_go p k) lo hi)
  now_is (to_stir p ∷ later) (_, lo, hi, st) = let now = now_is later st in now_stir later now p (in_way_after later now (to_stir p) lo hi)
  now_is (to_start p ∷ later) st = absurd st.0
  now_is (to_fail p ∷ later) st = absurd st.0
  now_is (to_take p ∷ later) st = absurd st.0
  now_is (to_leave c ∷ later) st = absurd st.0
  now_is (to_void c ∷ later) st = absurd st.0

  pub waits_behind : (later : List Call) → Stays j picks later → WaitsBehind (since j picks later)
  waits_behind later st =
      let now = now_is later st in
      let h = now.own in
      let w = (s later).own in
      let b = h.behind in
      let here : place (since j picks later) 1 ≡ (w 1).rec.place = spot (calls later) 1 (omega arith) in
      let same : (station (since j picks later) 1).rec ≡ (w 1).rec = ap (λ (x : Station). x.rec) ((promised (calls later)).stations 1 (omega arith)) in
      record {
        up_to_27 = let d = b.in_door in (omega arith, omega arith);
        copies = λ past k. ap (λ (r : Record). has r.copy k) same ∙ only_0 (w 1).rec.copy k (b.copied (omega arith)) (b.only k);
        waits_for = λ at. ap (λ (r : Record). r.kept) same ∙ b.only (w 1).rec.kept (b.kept (sym here ∙ at));
        waits = λ at under k. answered later under k ∙ ap replied (waits_27 2 w k _ (seen_1 w h) (sym here ∙ at) (reads_27 w h k _ (hears_27_at later now.line k)));
        goes_on = λ off under. (pick (w 1), answered later under (pick (w 1)) ∙ done_answers _ (moves 2 w _ (seen_1 w h) b.in_door (λ e. off (here ∙ e))));
      }
