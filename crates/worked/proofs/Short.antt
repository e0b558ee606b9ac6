-- Runs of one or two calls on a new junction, by its history.
use Rattle.std.proofs.Common.{◌≡◌, ℕ, ◌-◌, ◌*◌, ◌<◌, ◌≤◌, Bool, true, false, cond, eqb, List, [], ◌∷◌, Ok, sym, refl, ap, ◌∙◌, arith}
use Rattle.std.proofs.lemmas.Bool.{lt-ltb}
use Rattle.std.proofs.lemmas.Bool.Decides.{nat_tests}
use Rattle.boards.specs.Lines.{settled}
use Rattle.boards.specs.Hold.{Hold, hold}
use Rattle.steps.specs.declared.lines.Part.TheVariants.{Door}
use Rattle.disciplines.specs.declared.four_line.FourLine.{FourLine}
use Rattle.junction.specs.declared.state.Junction.{Junction}
use Rattle.steps.specs.declared.answers.Outcome.TheVariants.{Accepted}
use Rattle.steps.specs.declared.answers.Refusal.TheVariants.{NotIdle, WrongPick, NothingToSettle}
use Rattle.steps.specs.Rows.{new_record, to_number}
use Rattle.sets.specs.Sets.{is_none, first}
use Rattle.steps.specs.Table.{Table}
use Rattle.steps.specs.FourLine.{four_line, view}
use Rattle.runs.specs.Laws.{LinesApart, OneHolder}
use Rattle.runs.specs.Runs as runs
use Rattle.runs.specs.Runs.{start, stir, go, Own, State, Reply, done, refused, reply, next, new_own, stands, goes_to, line_to, limit, is_done}
use Rattle.sets.proofs.SetLaws.{first_at, empty_at}
use Rattle.junction.specs.declared.stations.Station.{Station}
use Rattle.junction.specs.Promise.{Call, to_start, to_stir, to_go, replied, Agrees}
use Rattle.worked.specs.Worked.{StartsOnce, StirsAtDoor, PicksTurn, four_line_junction}
use Rattle.worked.proofs.Base as base
use Rattle.worked.proofs.Base.{agree, size_is, begun, begun_own, begun_used, go_own, go_reply, go_used}

-- a station that is not idle is not started
start_refused : (t : Table) (n name p : ℕ) (s : State) → p < n → s.used < limit → eqb (s.own p).rec.place 21 ≡ false → reply t n name s (start p) ≡ refused NotIdle
start_refused t n name p s lt under e = rw (lt-ltb p n lt, lt-ltb s.used limit under, e) refl

pub starts_once : {D : Type 0} (t : Table) (apart : LinesApart t) (one : OneHolder t) (d : D) (N name p : ℕ)
    → ((n : ℕ) → eqb (t.starts n new_record).place 21 ≡ false) → N * t.per ≤ 64 → N ≤ 16 → p < N → StartsOnce t (base.j t apart one d N name) p
starts_once t apart one d N name p off room few lt =
    let j = base.j t apart one d N name in
    let n : ℕ = j.size.stations in
    let ltn : p < n = omega (arith, size_is t d N name (omega arith) few room) in
    record {
      first = (agree t apart one d N name []).answers (to_start p) ∙ rw (lt-ltb p n ltn) refl;
      second = (agree t apart one d N name (to_start p ∷ [])).answers (to_start p)
          ∙ ap replied (start_refused t n name p (begun t n name p ltn) ltn (omega (arith, begun_used t n name p ltn)) (ap (λ (o : Own). eqb o.rec.place 21) (begun_own t n name p ltn) ∙ off n));
    }

-- the four-line discipline, after a start, and after a go from there
abbrev at22 : ℕ → Own
at22 n = stands (four_line.starts n new_record) new_own

abbrev at23 : ℕ → Own
at23 n = line_to Door (settled true) (goes_to (to_number 23 (at22 n).rec) (at22 n))

opens : (n : ℕ) (w : ℕ → Own) (p k : ℕ) (heard : Bool) → w p ≡ at22 n → runs.went four_line n w p k heard ≡ done (at23 n)
unfolding view
opens n w p k heard e = rw e refl

-- what a stir is answered at both
stirs_22 : (n p : ℕ) (o : Own) → o ≡ at22 n → runs.settles_some (runs.next_go four_line n p o.rec) ≡ true
unfolding view
stirs_22 n p o e = rw e refl

full : (n : ℕ) → 1 ≤ n → n ≤ 16 → is_none (first (2 * n)) ≡ false
full n some few = let a = first_at (2 * n) 0 in let b = empty_at (first (2 * n)) 0 in grind (arith, nat_tests)

stirs_23 : (n p : ℕ) (o : Own) → 1 ≤ n → n ≤ 16 → o ≡ at23 n → runs.settles_some (runs.next_go four_line n p o.rec) ≡ false
unfolding view
stirs_23 n p o some few e = rw e (let a = full n some few in grind (arith, nat_tests))

-- what a go is answered at 23
wrong_23 : (n : ℕ) (w : ℕ → Own) (p : ℕ) (heard : Bool) → 1 ≤ n → n ≤ 16 → w p ≡ at23 n → runs.went four_line n w p (2 * n) heard ≡ refused WrongPick
unfolding view
wrong_23 n w p heard some few e = rw e (let a = full n some few in let b = first_at (2 * n) (2 * n) in grind (arith, nat_tests))

right_23 : (n : ℕ) (w : ℕ → Own) (p : ℕ) (heard : Bool) → 1 ≤ n → n ≤ 16 → w p ≡ at23 n → is_done (runs.went four_line n w p (2 * n - 1) heard) ≡ true
unfolding view
right_23 n w p heard some few e = rw e (let a = full n some few in let b = first_at (2 * n) (2 * n - 1) in grind (arith, nat_tests))

stir_reply : (t : Table) (n name p : ℕ) (s : State) (b : Bool) → p < n → s.used < limit → runs.settles_some (runs.next_go t n p (s.own p).rec) ≡ b
    → reply t n name s (stir p) ≡ cond b (done (runs.stirred t n p (s.own p))) (refused NothingToSettle)
stir_reply t n name p s b lt under e = rw (lt-ltb p n lt, lt-ltb s.used limit under, e) refl

pub done_answers : (r : Reply) → is_done r ≡ true → replied r ≡ Ok Accepted
done_answers (done o) e = refl
done_answers runs.waits e = absurd (grind arith)
done_answers runs.idle e = absurd (grind arith)
done_answers (refused x) e = absurd (grind arith)

module _ (apart : LinesApart four_line) (one : OneHolder four_line) (N name p : ℕ) (few : N ≤ 16) (lt : p < N) where
  abbrev j : Junction FourLine Hold
  j = four_line_junction N name

  abbrev n : ℕ
  n = j.size.stations

  size : n ≡ N
  size = size_is {D = FourLine} four_line (record {}) N name (omega arith) few (omega arith)

  ltn : p < n
  ltn = omega (arith, size)

  some : 1 ≤ n
  some = omega (arith, size)

  few_n : n ≤ 16
  few_n = omega (arith, size)

  abbrev s1 : State
  s1 = begun four_line n name p ltn

  s1_under : s1.used < limit
  s1_under = omega (arith, begun_used four_line n name p ltn)

  -- after a go from 22
  module _ (k : ℕ) (heard : Bool) where
    abbrev s2 : State
    s2 = next four_line n name s1 (go p k heard)

    opened : runs.went four_line n s1.own p k heard ≡ done (at23 n)
    opened = opens n s1.own p k heard (begun_own four_line n name p ltn)

    s2_own : s2.own p ≡ at23 n
    s2_own = go_own four_line n name p ltn s1 s1_under k heard ∙ ap (λ r. runs.after r (s1.own p)) opened

    s2_under : s2.used < limit
    s2_under = omega (arith, begun_used four_line n name p ltn, go_used four_line n name p ltn s1 s1_under k heard (ap runs.is_accepted opened))

    stir_23 : reply four_line n name s2 (stir p) ≡ refused NothingToSettle
    stir_23 = stir_reply four_line n name p s2 false ltn s2_under (stirs_23 n p (s2.own p) some few_n s2_own)

    pick_wrong : (h : Bool) → reply four_line n name s2 (go p (2 * N) h) ≡ refused WrongPick
    pick_wrong h = ap (λ x. reply four_line n name s2 (go p (2 * x) h)) (sym size) ∙ go_reply four_line n name p ltn s2 s2_under (2 * n) h ∙ wrong_23 n s2.own p h some few_n s2_own

    pick_right : (h : Bool) → is_done (reply four_line n name s2 (go p (2 * N - 1) h)) ≡ true
    pick_right h = ap (λ x. is_done (reply four_line n name s2 (go p (2 * x - 1) h))) (sym size) ∙ ap is_done (go_reply four_line n name p ltn s2 s2_under (2 * n - 1) h) ∙ right_23 n s2.own p h some few_n s2_own

  promised : (cs : List Call) → Agrees four_line hold j cs
  promised = agree four_line apart one (record {}) N name

  pub stirs_at_door : StirsAtDoor j p
  stirs_at_door = record {
    at_22 = (promised (to_start p ∷ [])).answers (to_stir p)
        ∙ ap replied (stir_reply four_line n name p s1 true ltn s1_under (stirs_22 n p (s1.own p) (begun_own four_line n name p ltn)));
    at_23 = λ k. (promised (to_go p k ∷ to_start p ∷ [])).answers (to_stir p) ∙ ap replied (stir_23 k _);
  }

  pub picks_turn : PicksTurn j N p
  picks_turn = record {
    at_23 = λ k. ap (λ (x : Station). x.rec.place) ((promised (to_go p k ∷ to_start p ∷ [])).stations p ltn) ∙ ap (λ (o : Own). o.rec.place) (s2_own k _);
    wrong = λ k. (promised (to_go p k ∷ to_start p ∷ [])).answers (to_go p (2 * N)) ∙ ap replied (pick_wrong k _ _);
    right = λ k. (promised (to_go p k ∷ to_start p ∷ [])).answers (to_go p (2 * N - 1)) ∙ done_answers _ (pick_right k _ _);
  }
