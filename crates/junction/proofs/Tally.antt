-- Each call keeps the junction's totals, and the stations seen, those that follow from its history.
use Rattle.std.proofs.Common.{◌≡◌, ℕ, zero, suc, ◌<◌, ◌≤◌, Bool, true, false, cond, ◌&&◌, ◌||◌, eqb, sym, refl, ap, ◌∙◌, ap₂, arith}
use Rattle.std.proofs.lemmas.Bool.{and_left}
use Rattle.std.proofs.lemmas.Bool.Decides.{nat_tests}
use Rattle.std.proofs.Math.Bool.{and-false, or-false}
use Rattle.boards.specs.Lines.{settled, Meaning}
use Rattle.steps.specs.declared.go.Go.{Go}
use Rattle.steps.specs.declared.go.Go.TheVariants.{Idle, Waits, WrongPick, MustLeave, Moves, Settles}
use Rattle.steps.specs.declared.answers.Refusal.{Refusal}
use Rattle.steps.specs.declared.answers.Refusal.TheVariants as ref
use Rattle.steps.specs.Rows.{release_place, failed, to_number}
use Rattle.sets.specs.Sets.{has, plus, none, everywhere}
use Rattle.sets.proofs.SetLaws.{has_plus, has_none}
use Rattle.steps.specs.Table.{Table}
use Rattle.runs.specs.Runs as runs
use Rattle.runs.specs.Runs.{Event, start, stir, fail, take, go, leave, void, Ticket, State, Reply, done, waits, idle, refused, reply, next, run, limit, most_stations, of, of_go, goes_to, line_to, stands, is_accepted, is_done, is_go, frees, shows, limited, one_more, holds}
use Rattle.junction.specs.declared.stations.Station.{Station}
use Rattle.junction.specs.declared.counts.Counts.{Counts}
use Rattle.junction.specs.declared.counts.Note.{Note}
use Rattle.junction.specs.declared.state.Junction.{Junction}
use Rattle.junction.specs.Counts.{most, more_if, noted, seen_with, round_over}
use Rattle.junction.specs.Counts.{by_start, by_go, by_fail, by_leave}
use Rattle.junction.specs.Calls.{place, with_board, acted}
use Rattle.junction.specs.Promise.{Call, ticket, call_leaves, event}
use Rattle.junction.proofs.ByCall.{Alike, by_call, bit}

-- what a call counts as, by its reply
module _ (t : Table) (N : ℕ) (s : State) (e : Event) (r : Reply) where
  abbrev pub grants_by : Bool
  grants_by = is_go e && is_done r && eqb (runs.after r (s.own (of e))).rec.place t.grant

  abbrev pub ends_by : Bool
  ends_by = frees e && is_done r && holds t (s.own (of e)).rec.place

  abbrev pub seen_by : ℕ → Bool
  seen_by q = s.seen q || (shows e && is_accepted r && eqb q (of e))

  abbrev pub round_by : Bool
  round_by = shows e && is_accepted r && everywhere N seen_by

  -- the counts are those that the call leaves
  pub record Tally (c : Counts) : Type 0 where
    pub grants : c.totals.grants ≡ one_more grants_by s.grants
    pub ends : c.totals.ends ≡ one_more ends_by s.ends
    pub rounds : c.totals.rounds ≡ one_more round_by s.rounds
    pub seen : (q : ℕ) → q < N → has c.seen q ≡ cond round_by false (seen_by q)

pub record Told (N : ℕ) (c : Counts) (s : State) : Type 0 where
  pub grants : c.totals.grants ≡ s.grants
  pub ends : c.totals.ends ≡ s.ends
  pub rounds : c.totals.rounds ≡ s.rounds
  pub seen : (q : ℕ) → q < N → has c.seen q ≡ s.seen q

-- far from what 64 bits hold
pub record Small (s : State) : Type 0 where
  pub grants : s.grants < most
  pub ends : s.ends < most
  pub rounds : s.rounds < most

counted_if : (b d : Bool) (m n : ℕ) → b ≡ d → m ≡ n → n < most → more_if b m ≡ one_more d n
counted_if b d m n e f lt = grind (arith, nat_tests)

everywhere_same : (n : ℕ) (f g : ℕ → Bool) → ((q : ℕ) → q < n → f q ≡ g q) → everywhere n f ≡ everywhere n g
everywhere_same zero f g h = refl
everywhere_same (suc n) f g h = ap₂ ◌&&◌ (h n (omega arith)) (everywhere_same n f g (λ q lt. h q (omega arith)))

module _ (t : Table) (N : ℕ) (s : State) (c : Counts) (e : Event) (told : Told N c s) where
  -- a call that counts as nothing
  uncounted : (r : Reply) → is_go e && is_done r ≡ false → frees e && is_done r ≡ false → shows e && is_accepted r ≡ false → Tally t N s e r c
  uncounted r g d w =
      let off : (x : Bool) → shows e && is_accepted r && x ≡ false = λ x. and_left (shows e && is_accepted r) x w in
      record {
        grants = told.grants ∙ ap (λ b. one_more b s.grants) (sym (and_left (is_go e && is_done r) _ g));
        ends = told.ends ∙ ap (λ b. one_more b s.ends) (sym (and_left (frees e && is_done r) _ d));
        rounds = told.rounds ∙ ap (λ b. one_more b s.rounds) (sym (off _));
        seen = λ q lt. told.seen q lt ∙ sym (ap (λ b. cond b false (seen_by t N s e r q)) (off _) ∙ ap (λ b. s.seen q || b) (off _) ∙ or-false (s.seen q));
      }

  -- a refused call
  tally_none : (x : Refusal) → Tally t N s e (refused x) c
  tally_none x = uncounted (refused x) (and-false (is_go e)) (and-false (frees e)) (and-false (shows e))

  with_seen : (k : Note) (r : Reply) → of e < 32 → k.shown ≡ shows e && is_accepted r → (q : ℕ) → q < N → has (seen_with k (of e) c.seen) q ≡ seen_by t N s e r q
  with_seen k r small is q lt = ap (λ b. has (cond b (plus (of e) c.seen) c.seen) q) is ∙ at (shows e && is_accepted r) ∙ ap (λ b. b || (shows e && is_accepted r && eqb q (of e))) (told.seen q lt)
    where
      at : (b : Bool) → has (cond b (plus (of e) c.seen) c.seen) q ≡ has c.seen q || (b && eqb q (of e))
      at true = λ i. has_plus (of e) c.seen small i q
      at false = sym (or-false (has c.seen q))

  -- a call that is counted by a note
  tally_note : (k : Note) (r : Reply) → of e < 32 → Small s → k.granted ≡ grants_by t N s e r → k.ended ≡ ends_by t N s e r → k.shown ≡ shows e && is_accepted r → Tally t N s e r (noted k N (of e) c)
  tally_note k r small fit g d w =
      let round : round_over k N (of e) c.seen ≡ round_by t N s e r
      = ap₂ ◌&&◌ w (everywhere_same N (has (seen_with k (of e) c.seen)) (seen_by t N s e r) (with_seen k r small w)) in
      record {
        grants = counted_if k.granted _ c.totals.grants s.grants g told.grants fit.grants;
        ends = counted_if k.ended _ c.totals.ends s.ends d told.ends fit.ends;
        rounds = counted_if _ _ c.totals.rounds s.rounds round told.rounds fit.rounds;
        seen = λ q lt. ap (λ b. has (cond b none (seen_with k (of e) c.seen)) q) round ∙ at (round_by t N s e r) q ∙ ap (λ b. cond (round_by t N s e r) false b) (with_seen k r small w q lt);
      }
    where
      at : (b : Bool) (q : ℕ) → has (cond b none (seen_with k (of e) c.seen)) q ≡ cond b false (has (seen_with k (of e) c.seen) q)
      at true q = λ i. has_none i q
      at false q = refl

  -- takes and voids are not counted
  quiet : (r : Reply) → is_go e ≡ false → frees e ≡ false → shows e ≡ false → Tally t N s e r c
  quiet r a b d = uncounted r (and_left (is_go e) _ a) (and_left (frees e) _ b) (and_left (shows e) (is_accepted r) d)

-- every call
module _ {D B : Type 0} (t : Table) (m : Meaning B) (j : Junction D B) (s : State) (h : Alike t m j s) (few : j.size.stations ≤ most_stations) (told : Told j.size.stations j.counts s) (fit : Small s) where
  abbrev n : ℕ
  n = j.size.stations

  by_note : (e : Event) (k : Note) (r : Reply) → of e < n → k.granted ≡ grants_by t n s e r → k.ended ≡ ends_by t n s e r → k.shown ≡ shows e && is_accepted r → Tally t n s e r (noted k n (of e) j.counts)
  by_note e k r lt = tally_note t n s j.counts e told k r (omega arith) fit

  held : (p : ℕ) → p < n → holds t (place j p) ≡ holds t (s.own p).rec.place
  held p lt = ap (λ (x : Station). holds t x.rec.place) (h.stations p lt)

  act_tally : (p k : ℕ) (a : Bool) (b : B) (g : Go) → p < n → Tally t n s (go p k a) (of_go g (s.own p)) (acted t m (with_board j b) p g).counts
  act_tally p k a b Idle lt = by_note (go p k a) (by_go false) idle lt refl refl refl
  act_tally p k a b Waits lt = by_note (go p k a) (by_go false) waits lt refl refl refl
  act_tally p k a b WrongPick lt = tally_none t n s j.counts (go p k a) told ref.WrongPick
  act_tally p k a b MustLeave lt = tally_none t n s j.counts (go p k a) told ref.MustLeave
  act_tally p k a b (Moves x) lt = by_note (go p k a) (by_go (eqb x.place t.grant)) (done (goes_to x (s.own p))) lt refl refl refl
  act_tally p k a b (Settles y v x) lt = by_note (go p k a) (by_go (eqb x.place t.grant)) (done (line_to y (settled v) (goes_to x (s.own p)))) lt refl refl refl

  pub call_tally : (c : Call) → Tally t n s (event t m j c) (reply t n j.name s (event t m j c)) (call_leaves t m j c).counts
  call_tally = by_call t m j s h (λ e j' a r. Tally t n s e r j'.counts) (record {
    refusing = λ e x. tally_none t n s j.counts e told x;
    starting = λ p lt ul. by_note (start p) by_start (done (stands (t.starts n (s.own p).rec) (s.own p))) lt refl refl refl;
    failing = λ p lt ul. by_note (fail p) (by_fail (holds t (place j p))) (done (stands failed (s.own p))) lt refl (held p lt) refl;
    stirring = λ p lt ul. by_note (stir p) by_start (done (runs.stirred t n p (s.own p))) lt refl refl refl;
    going = λ p k g lt ul. act_tally p k (bit t m j s p k) _ g lt;
    passing = λ p lt. quiet t n s j.counts (take p) told (done (runs.takes (s.own p))) refl refl refl;
    leaving = λ c lt. by_note (leave (ticket c)) (by_leave (holds t (place j c.station))) (done (stands (to_number release_place (s.own c.station).rec) (s.own c.station))) lt refl (held c.station lt) refl;
    voiding = λ c lt. quiet t n s j.counts (void (ticket c)) told (done (s.own c.station)) refl refl refl;
  })

  pub call_told : (c : Call) → Told n (call_leaves t m j c).counts (next t n j.name s (event t m j c))
  call_told c = let k = call_tally c in record { grants = k.grants; ends = k.ends; rounds = k.rounds; seen = k.seen }
