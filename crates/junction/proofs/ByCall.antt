-- The calls divided once: what a junction leaves and answers, beside what its history is replied. Whatever is to be shown of
-- the three is shown of a refusal, of each accepted call, and of what a go may do.
use Rattle.std.proofs.Common.{◌≡◌, ℕ, ◌<◌, Bool, true, not, ◌&&◌, eqb, ltb, Ok, Err, Result, sym, refl, ap, subst, ltb-true}
use Rattle.boards.specs.Lines.{Meaning}
use Rattle.steps.specs.declared.go.Go.{Go}
use Rattle.steps.specs.declared.answers.Outcome.{Outcome}
use Rattle.steps.specs.declared.answers.Outcome.TheVariants.{Accepted}
use Rattle.steps.specs.declared.answers.Refusal.{Refusal}
use Rattle.steps.specs.declared.answers.Refusal.TheVariants as ref
use Rattle.steps.specs.Rows.{merge_place, idle_place, failed_place, release_place, failed, to_number}
use Rattle.steps.specs.Table.{Table}
use Rattle.runs.specs.Runs as runs
use Rattle.runs.specs.Runs.{Event, start, stir, fail, take, go, leave, void, Own, State, Reply, done, refused, reply, limit, of, stands, looked, of_go, holds, settles_some}
use Rattle.junction.specs.declared.stations.Station.{Station}
use Rattle.junction.specs.declared.pass.Pass.{Pass}
use Rattle.junction.specs.declared.state.Junction.{Junction}
use Rattle.junction.specs.Stations.{at_record, pass_taken}
use Rattle.junction.specs.Wires.{hears, heard, stirred_board}
use Rattle.junction.specs.Counts.{by_start, by_fail, by_leave}
use Rattle.junction.specs.Calls.{station, place, with_board, counting, putting, stepped, answered, acted, allowed_answer, allowed_leaves, look_of, go_of, next_go}
use Rattle.junction.specs.Promise.{Call, to_start, to_stir, to_fail, to_take, to_go, to_leave, to_void, ticket, taking, handing, call_leaves, call_answers, event, kept_of}
use Rattle.junction.proofs.Both.{all_by, allowing}

module _ {D B : Type 0} (t : Table) (m : Meaning B) (j : Junction D B) (s : State) where
  abbrev n : ℕ
  n = j.size.stations

  -- what a go hears
  abbrev pub bit : ℕ → ℕ → Bool
  bit p k = hears t m n j.board (look_of t m j p k)

  -- the junction has the history's stations and its count of calls, and a go does in it what it does in the history
  pub record Alike : Type 0 where
    pub stations : (p : ℕ) → p < n → station j p ≡ kept_of (s.own p)
    pub used : j.counts.used ≡ s.used
    pub goes : (p k : ℕ) → p < n → t.goes n p (s.own p).rec k (looked s.own (t.looks n p (s.own p).rec k) (bit p k)) ≡ go_of t m j p k

  -- the ways in which a call may go: what it leaves, answers and is replied
  pub record Ways (P : Event → Junction D B → Result Outcome Refusal → Reply → Type 0) : Type 0 where
    pub refusing : (e : Event) (x : Refusal) → P e j (Err x) (refused x)
    pub starting : (p : ℕ) → p < n → s.used < limit → P (start p) (stepped j p (at_record (t.starts n (station j p).rec) (station j p)) by_start) (Ok Accepted) (done (stands (t.starts n (s.own p).rec) (s.own p)))
    pub failing : (p : ℕ) → p < n → s.used < limit → P (fail p) (stepped j p (at_record failed (station j p)) (by_fail (holds t (place j p)))) (Ok Accepted) (done (stands failed (s.own p)))
    pub stirring : (p : ℕ) → p < n → s.used < limit → P (stir p) (counting (with_board j (stirred_board t m n p (place j p) (next_go t m j p) j.board)) p by_start) (Ok Accepted) (done (runs.stirred t n p (s.own p)))
    pub going : (p k : ℕ) (g : Go) → p < n → s.used < limit → P (go p k (bit p k)) (acted t m (with_board j (heard t m n j.board (look_of t m j p k))) p g) (answered g) (of_go g (s.own p))
    pub passing : (p : ℕ) → p < n → P (take p) (putting j p (pass_taken (station j p))) (Ok Accepted) (done (runs.takes (s.own p)))
    pub leaving : (c : Pass) → c.station < n → P (leave (ticket c)) (stepped j c.station (at_record (to_number release_place (station j c.station).rec) (station j c.station)) (by_leave (holds t (place j c.station)))) (Ok Accepted) (done (stands (to_number release_place (s.own c.station).rec) (s.own c.station)))
    pub voiding : (c : Pass) → c.station < n → P (void (ticket c)) j (Ok Accepted) (done (s.own c.station))

  module _ (h : Alike) (P : Event → Junction D B → Result Outcome Refusal → Reply → Type 0) (w : Ways P) where
    -- a test of a station of the junction is that of the history's
    tested : (f : Station → Bool) (p : ℕ) → ltb p n ≡ true → f (station j p) ≡ f (kept_of (s.own p))
    tested f p below = ap f (h.stations p (ltb-true p n below))

    -- a start, go, stir or fail, which the station's number or the limit may refuse
    allowed : (e : Event) (x : Junction D B) (y : Result Outcome Refusal) (r : Reply) → (ltb (of e) n ≡ true → s.used < limit → P e x y r) → P e (allowed_leaves t m j (of e) x) (allowed_answer t m j (of e) y) (runs.allowed n s (of e) r)
    allowed e x y r f =
        allowing (P e) j Err (ltb (of e) n) (ltb j.counts.used limit) (ltb s.used limit) (ap (λ u. ltb u limit) h.used) x y r
        (λ below under. f below (ltb-true s.used limit under))
        (w.refusing e)

    pub by_call : (c : Call) → P (event t m j c) (call_leaves t m j c) (call_answers t m j c) (reply t n j.name s (event t m j c))
    by_call (to_start p) =
        allowed (start p) _ _ _
        (λ below ul. all_by (P (start p)) _ _ (tested (λ x. eqb x.rec.place idle_place) p below) _ _ _ _ _ _
        (λ _. w.starting p (ltb-true p n below) ul)
        (λ _. w.refusing (start p) ref.NotIdle))
    by_call (to_fail p) =
        allowed (fail p) _ _ _
        (λ below ul. all_by (P (fail p)) _ _ (tested (λ x. eqb x.rec.place failed_place) p below) _ _ _ _ _ _
        (λ _. w.refusing (fail p) ref.HasFailed)
        (λ _. w.failing p (ltb-true p n below) ul))
    by_call (to_stir p) =
        allowed (stir p) _ _ _
        (λ below ul. all_by (P (stir p)) _ _ (tested (λ x. settles_some (runs.next_go t n p x.rec)) p below) _ _ _ _ _ _
        (λ _. w.stirring p (ltb-true p n below) ul)
        (λ _. w.refusing (stir p) ref.NothingToSettle))
    by_call (to_go p k) =
        allowed (go p k (bit p k)) _ _ _
        (λ below ul.
        subst (λ g. P (go p k (bit p k)) (acted t m (with_board j (heard t m n j.board (look_of t m j p k))) p (go_of t m j p k)) (answered (go_of t m j p k)) (of_go g (s.own p))) (sym (h.goes p k (ltb-true p n below)))
        (w.going p k (go_of t m j p k) (ltb-true p n below) ul))
    by_call (to_take p) =
        all_by (λ x y. P (take p) x (taking y)) (ltb p n) (ltb p n) refl _ _ _ _ _ _
        (λ below. all_by (λ x y. P (take p) x (taking y)) _ _ (tested (λ x. eqb x.rec.place merge_place && not x.taken) p below) _ _ _ _ _ _
        (λ _. w.passing p (ltb-true p n below))
        (λ _. w.refusing (take p) ref.NoPass))
        (λ _. w.refusing (take p) ref.NoStation)
    by_call (to_leave c) =
        let e : Event = leave (ticket c) in
        all_by (λ x y. P e x (handing y)) (ltb c.station n) (ltb c.station n) refl _ _ _ _ _ _
        (λ below. all_by (λ x y. P e x (handing y)) _ _ (tested (λ x. eqb c.name j.name && (eqb x.rec.place merge_place && eqb c.arrival x.arrivals)) c.station below) _ _ _ _ _ _
        (λ _. w.leaving c (ltb-true c.station n below))
        (λ _. w.refusing e ref.NotCurrent))
        (λ _. w.refusing e ref.NoStation)
    by_call (to_void c) =
        let e : Event = void (ticket c) in
        all_by {X = Unit {0}} (λ _ y. P e j (handing y)) (ltb c.station n) (ltb c.station n) refl tt tt _ _ _ _
        (λ below. all_by {X = Unit {0}} (λ _ y. P e j (handing y)) _ _ (tested (λ x. eqb c.name j.name && not (eqb x.rec.place merge_place && eqb c.arrival x.arrivals)) c.station below) tt tt _ _ _ _
        (λ _. w.voiding c (ltb-true c.station n below))
        (λ _. w.refusing e ref.StillCurrent))
        (λ _. w.refusing e ref.NoStation)
