-- Each call keeps the junction in agreement with its history: stations, lines and the count of calls.
use Rattle.std.proofs.Common.{◌≡◌, ℕ, suc, ◌*◌, ◌<◌, ◌≤◌, Bool, true, false, cond, ◌&&◌, eqb, ltb, ◌≢◌, length, get_or, set, Some, None, Option, sym, refl, ap, ◌∙◌, subst, inl, inr, arith, length-set, get_or-set_other, get_or-set_same, ltb-true, lt-ltb}
use Rattle.std.proofs.lemmas.Bool.Decides.{nat_tests}
use Rattle.std.proofs.lemmas.Bool.{cond_both, cases_eq}
use Rattle.std.proofs.Math.Bool.{and-false}
use Rattle.boards.specs.Lines.{Line, settled, loose, Meaning, Lawful}
use Rattle.steps.specs.declared.record.Record.{Record}
use Rattle.steps.specs.declared.lines.Part.{Part}
use Rattle.steps.specs.declared.lines.Flag.{Flag}
use Rattle.steps.specs.declared.go.Go.{Go}
use Rattle.steps.specs.declared.go.Go.TheVariants.{Idle, Waits, WrongPick, MustLeave, Moves, Settles}
use Rattle.steps.specs.declared.answers.Refusal.{Refusal}
use Rattle.steps.specs.declared.answers.Refusal.TheVariants as ref
use Rattle.steps.specs.Rows.{merge_place, release_place, failed, to_number, flag}
use Rattle.steps.specs.Table.{Table}
use Rattle.runs.specs.Laws.{LinesApart, Numbered}
use Rattle.runs.specs.Runs as runs
use Rattle.runs.specs.Runs.{Event, start, stir, fail, take, go, leave, void, Own, State, Reply, done, waits, idle, refused, reply, limit, most_stations, of, is_accepted, limited, one_more, line, line_to, lines_to, same_part, stands, goes_to, reading, looked, of_go, settles_some}
use Rattle.junction.specs.declared.stations.Station.{Station}
use Rattle.junction.specs.declared.counts.Note.{Note}
use Rattle.junction.specs.declared.state.Junction.{Junction}
use Rattle.junction.specs.Stations.{blank, at_record, arrived, pass_taken}
use Rattle.junction.specs.Counts.{more_if}
use Rattle.junction.specs.Wires.{hears, heard, settled_on}
use Rattle.junction.specs.Counts.{by_start, by_go, by_fail}
use Rattle.junction.specs.Calls.{station, place, with_board, counting, stepped, look_of, go_of, acted, next_go}
use Rattle.junction.specs.Promise.{Call, ticket, call_leaves, event, kept_of}
use Rattle.junction.proofs.ByCall.{bit, Alike, by_call}
use Rattle.junction.proofs.Touch.{Touched, retouch, in_room, touch_settle, touch_stir, touch_read}

-- what a call leaves of the stations and of the calls counted, by its reply
abbrev pub own_next : State → Event → Reply → ℕ → Own
own_next s e r q = cond (eqb q (of e)) (runs.after r (s.own (of e))) (s.own q)

abbrev pub used_next : State → Event → Reply → ℕ
used_next s e r = one_more (limited e && is_accepted r) s.used

-- by cases: the station that calls, or another
each : (P : ℕ → Own → Type 0) (s : State) (e : Event) (r : Reply) → P (of e) (runs.after r (s.own (of e))) → ((q : ℕ) → q ≢ of e → P q (s.own q)) → (q : ℕ) → P q (own_next s e r q)
each P s e r h g q = let other = g q in grind (arith, nat_tests)

-- the code's counting on is one more, far from what 64 bits hold
bump_if : (b : Bool) (n : ℕ) → n < limit → more_if b n ≡ cond b (suc n) n
bump_if b n lt = grind (arith, nat_tests)

-- lines are not changed by a change of the record or of the pass
stands_line : (x : Part) (a : Record) (o : Own) → line x o ≡ line x (stands a o)
stands_line x a o = grind arith

goes_line : (x : Part) (a : Record) (o : Own) → line x o ≡ line x (goes_to a o)
goes_line x a o = grind arith

takes_line : (x : Part) (o : Own) → line x o ≡ line x (runs.takes o)
takes_line x o = grind arith

-- a line of a station whose lines are as f says
lines_at : (x : Part) (f : Part → Line) (o : Own) → f x ≡ line x (lines_to f o)
lines_at x f o = grind arith

module _ {D B : Type 0} (t : Table) (m : Meaning B) (law : Lawful m) (apart : LinesApart t) (N : ℕ) where
  -- the junction agrees with stations w and a count u of calls
  pub record Sofar (j : Junction D B) (w : ℕ → Own) (u : ℕ) : Type 0 where
    pub size : j.size.stations ≡ N
    pub few : N ≤ most_stations
    pub room : N * t.per ≤ m.count j.board
    pub full : length j.stations.at ≡ 16
    pub stations : (p : ℕ) → p < N → station j p ≡ kept_of (w p)
    pub lines : (p : ℕ) (x : Part) (l : ℕ) → t.number N (flag p x) ≡ Some l → m.line j.board l ≡ line x (w p)
    pub outside : (q : ℕ) (x : Part) → N ≤ q → line x (w q) ≡ settled false
    pub used : j.counts.used ≡ u
    pub within : u ≤ limit
    pub arrivals : (p : ℕ) → (w p).arrivals ≤ u

  -- a refused call
  stays : (j : Junction D B) (s : State) (e : Event) (n : Refusal) → Sofar j s.own s.used → Sofar j (own_next s e (refused n)) (used_next s e (refused n))
  stays j s e n h =
      let same : (λ q. s.own q) ≡ own_next s e (refused n) = λ i q. each (λ z o. s.own z ≡ o) s e (refused n) refl (λ z _. refl) q i in
      let u : s.used ≡ used_next s e (refused n) = ap (λ b. one_more b s.used) (sym (and-false (limited e))) in
      subst (λ x. Sofar j x (used_next s e (refused n))) same (subst (λ x. Sofar j s.own x) u h)

  -- an accepted call, after which the station that calls is o
  record Steps (j j' : Junction D B) (s : State) (e : Event) (o : Own) : Type 0 where
    size : j'.size.stations ≡ N
    full : length j'.stations.at ≡ 16
    own_station : station j' (of e) ≡ kept_of o
    other_station : (q : ℕ) → q ≢ of e → station j' q ≡ station j q
    board : Touched t m law apart N j.board j'.board (of e) (λ x. line x o)
    used : j'.counts.used ≡ one_more (limited e) s.used
    within : one_more (limited e) s.used ≤ limit
    arrivals : o.arrivals ≤ one_more (limited e) s.used

  advances : (j j' : Junction D B) (s : State) (e : Event) (r : Reply) → of e < N → is_accepted r ≡ true → Sofar j s.own s.used → Steps j j' s e (runs.after r (s.own (of e))) → Sofar j' (own_next s e r) (used_next s e r)
  advances j j' s e r lt acc h k =
      let p : ℕ = of e in
      let hr = h.room in
      let kc = k.board.count in
      record {
        size = k.size;
        few = h.few;
        room = omega arith;
        full = k.full;
        stations = each (λ q o. q < N → station j' q ≡ kept_of o) s e r (λ _. k.own_station) (λ q n l. k.other_station q n ∙ h.stations q l);
        lines = λ q x l. each (λ q o. t.number N (flag q x) ≡ Some l → m.line j'.board l ≡ line x o) s e r
            (λ at. k.board.own_line x l at)
            (λ q n at. k.board.other_line q x l n at ∙ h.lines q x l at) q;
        outside = λ q x. each (λ q o. N ≤ q → line x o ≡ settled false) s e r (λ far. absurd (omega arith)) (λ q n far. h.outside q x far) q;
        used = let now = k.used in grind arith;
        within = let now = k.within in grind arith;
        arrivals = each (λ q o. o.arrivals ≤ used_next s e r) s e r (let now = k.arrivals in grind arith) (λ q n. let old = h.arrivals q in grind arith);
      }

  pub untouched : (j : Junction D B) (w : ℕ → Own) (u p : ℕ) (f : Part → Line) → Sofar j w u → ((x : Part) → line x (w p) ≡ f x) → Touched t m law apart N j.board j.board p f
  untouched j w u p f h same = record { count = refl; own_line = λ x l at. h.lines p x l at ∙ same x; other_line = λ q x l n at. refl }

  -- station p is put at x
  puts : (j j' : Junction D B) (s : State) (e : Event) (o : Own) (x : Station) → of e < N → Sofar j s.own s.used → j'.size.stations ≡ N → j'.stations.at ≡ set j.stations.at (of e) x → x ≡ kept_of o → Touched t m law apart N j.board j'.board (of e) (λ x. line x o) → j'.counts.used ≡ one_more (limited e) s.used → one_more (limited e) s.used ≤ limit → o.arrivals ≤ one_more (limited e) s.used → Steps j j' s e o
  puts j j' s e o x lt h size at is board used within arrivals =
      let hf = h.full in
      let hw = h.few in
      record {
        size = size;
        full = ap length at ∙ length-set j.stations.at (of e) x ∙ h.full;
        own_station = ap (λ xs. get_or xs (of e) blank) at ∙ get_or-set_same j.stations.at (of e) x blank (omega arith) ∙ is;
        other_station = λ q n. ap (λ xs. get_or xs q blank) at ∙ get_or-set_other j.stations.at (of e) q x blank n;
        board = board;
        used = used;
        within = within;
        arrivals = arrivals;
      }

module _ {D B : Type 0} (t : Table) (m : Meaning B) (law : Lawful m) (apart : LinesApart t) (j : Junction D B) (s : State) (h : Sofar t m law apart j.size.stations j s.own s.used) where
  abbrev n : ℕ
  n = j.size.stations

  abbrev R : Event → Junction D B → Reply → Type 0
  R e j' r = Sofar t m law apart n j' (own_next s e r) (used_next s e r)

  -- nothing is changed
  idles : (e : Event) (r : Reply) → of e < n → limited e ≡ false → is_accepted r ≡ true → runs.after r (s.own (of e)) ≡ s.own (of e) → R e j r
  idles e r lt free acc same =
      advances t m law apart n j j s e r lt acc h
      (subst (λ o. Steps t m law apart n j j s e o) (sym same)
      (record {
        size = refl;
        full = h.full;
        own_station = h.stations (of e) lt;
        other_station = λ q d. refl;
        board = untouched t m law apart n j s.own s.used (of e) _ h (λ x. refl);
        used = let old = h.used in grind arith;
        within = let old = h.within in grind arith;
        arrivals = let old = h.arrivals (of e) in grind arith;
      }))

  -- counted, with another board
  counts : (e : Event) (r : Reply) (b : B) (k : Note) → of e < n → limited e ≡ true → k.limited ≡ true → is_accepted r ≡ true → s.used < limit → kept_of (runs.after r (s.own (of e))) ≡ kept_of (s.own (of e)) → Touched t m law apart n j.board b (of e) (λ x. line x (runs.after r (s.own (of e)))) → R e (counting (with_board j b) (of e) k) r
  counts e r b k lt lim kl acc ul same board =
      let ar = h.arrivals (of e) in
      let sa : (runs.after r (s.own (of e))).arrivals ≡ (s.own (of e)).arrivals = ap (λ (z : Station). z.arrivals) same in
      advances t m law apart n j (counting (with_board j b) (of e) k) s e r lt acc h
      (record {
        size = refl;
        full = h.full;
        own_station = h.stations (of e) lt ∙ sym same;
        other_station = λ q d. refl;
        board = board;
        used = let old = h.used in grind (arith, nat_tests);
        within = grind arith;
        arrivals = grind arith;
      })

  -- what a go hears is what follows from the lines
  hears_same : (o : Option Flag) → Numbered t n o → looked s.own o (hears t m n j.board o) ≡ hears t m n j.board o
  hears_same None k = refl
  hears_same (Some x) k =
      cond_both (ltb x.station n) true false (λ _. reading (line x.part (s.own x.station)) (hears t m n j.board (Some x)) ≡ hears t m n j.board (Some x))
      (λ e.
      let at = k (ltb-true x.station n e) in
      let i : at.0 < m.count j.board = in_room t m law apart n j.board x at.0 h.room at.1 in
      rw at.1 (rw (lt-ltb at.0 (m.count j.board) i) (reads at.0 (line x.part (s.own x.station)) i (h.lines x.station x.part at.0 at.1))))
      (λ e. rw (apart.absent n x (far e)) (ap (λ z. reading z false) (h.outside x.station x.part (far e))))
    where
      reads : (i : ℕ) (l : Line) → i < m.count j.board → m.line j.board i ≡ l → reading l (m.answer j.board i) ≡ m.answer j.board i
      reads i (settled v) lt q = sym (law.settled_answers j.board i v lt q)
      reads i loose lt q = refl

      far : ltb x.station n ≡ false → n ≤ x.station
      far e = grind (arith, nat_tests)

  abbrev T : B → ℕ → (Part → Line) → Type 0
  T b p f = Touched t m law apart n j.board b p f

  reboard : (b : B) (p : ℕ) → T b p (λ x. line x (s.own p)) → Sofar t m law apart n (with_board j b) s.own s.used
  reboard b p k =
      let hr = h.room in
      let kc = k.count in
      record {
        size = refl;
        few = h.few;
        room = omega arith;
        full = h.full;
        stations = h.stations;
        lines = λ q x l at. elim (cases_eq q p) [ inl y ↦ subst (λ z. t.number n (flag z x) ≡ Some l → m.line b l ≡ line x (s.own z)) (sym y) (k.own_line x l) at | inr d ↦ k.other_line q x l d at ∙ h.lines q x l at ];
        outside = h.outside;
        used = h.used;
        within = h.within;
        arrivals = h.arrivals;
      }

  arrives : (p k : ℕ) (a : Bool) (b : B) (c : B) (x : Record) (o : Own) (f : Note) → p < n → s.used < limit → f.limited ≡ true → kept_of o ≡ kept_of (goes_to x (s.own p)) → T c p (λ y. line y o) → R (go p k a) (stepped (with_board (with_board j b) c) p (arrived x (station j p)) f) (done o)
  arrives p k a b c x o f lt ul lim same board =
      let ar = h.arrivals p in
      let al : (s.own p).arrivals < limit = omega arith in
      advances t m law apart n j _ s (go p k a) (done o) lt refl h
      (puts t m law apart n j _ s (go p k a) o (arrived x (station j p)) lt h refl refl
      (ap (λ (z : Station). arrived x z) (h.stations p lt)
      ∙ ap (λ z. record { rec = x; arrivals = z; taken = cond (eqb x.place merge_place) false (s.own p).taken }) (bump_if (eqb x.place merge_place) (s.own p).arrivals al)
      ∙ sym same)
      board
      (let old = h.used in grind (arith, nat_tests)) ul
      (let now = ap (λ (z : Station). z.arrivals) same in grind arith))

  act_step : (p k : ℕ) (a : Bool) (b : B) (g : Go) → p < n → s.used < limit → T b p (λ x. line x (s.own p)) → R (go p k a) (acted t m (with_board j b) p g) (of_go g (s.own p))
  act_step p k a b Idle lt ul board = counts (go p k a) idle b (by_go false) lt refl refl refl ul refl board
  act_step p k a b Waits lt ul board = counts (go p k a) waits b (by_go false) lt refl refl refl ul refl board
  act_step p k a b WrongPick lt ul board = stays t m law apart n (with_board j b) s (go p k a) ref.WrongPick (reboard b p board)
  act_step p k a b MustLeave lt ul board = stays t m law apart n (with_board j b) s (go p k a) ref.MustLeave (reboard b p board)
  act_step p k a b (Moves x) lt ul board =
      arrives p k a b b x (goes_to x (s.own p)) (by_go (eqb x.place t.grant)) lt ul refl refl
      (retouch t m law apart n j.board b p _ _ (λ y. goes_line y x (s.own p)) board)
  act_step p k a b (Settles y v x) lt ul board =
      arrives p k a b (settled_on t m n b (flag p y) v) x (line_to y (settled v) (goes_to x (s.own p))) (by_go (eqb x.place t.grant)) lt ul refl refl
      (retouch t m law apart n j.board _ p _ _
      (λ z. ap (λ q. cond (same_part y z) (settled v) q) (goes_line z x (s.own p)) ∙ lines_at z (λ q. cond (same_part y q) (settled v) (line q (goes_to x (s.own p)))) (goes_to x (s.own p)))
      (touch_settle t m law apart n j.board b p (λ x. line x (s.own p)) y v h.room board))

  go_same : (p k : ℕ) → p < n → t.goes n p (s.own p).rec k (looked s.own (t.looks n p (s.own p).rec k) (bit t m j s p k)) ≡ go_of t m j p k
  go_same p k lt =
      ap (λ (b : Station). t.goes n p b.rec k (looked s.own (t.looks n p b.rec k) (bit t m j s p k))) (sym (h.stations p lt))
      ∙ ap (t.goes n p (station j p).rec k) (hears_same (look_of t m j p k) (apart.looks n p (station j p).rec k))

  pub alike : Alike t m j s
  alike = record { stations = h.stations; used = h.used; goes = go_same }

  -- one station is put at x, by a call that the limit counts
  renewed : (e : Event) (x : Station) (o : Own) (k : Note) → of e < n → s.used < limit → limited e ≡ true → k.limited ≡ true → x ≡ kept_of o → o.arrivals ≡ (s.own (of e)).arrivals → ((y : Part) → line y (s.own (of e)) ≡ line y o) → R e (stepped j (of e) x k) (done o)
  renewed e x o k lt ul lim kl is same lines =
      let ar = h.arrivals (of e) in
      advances t m law apart n j _ s e (done o) lt refl h
      (puts t m law apart n j _ s e o x lt h refl refl is (untouched t m law apart n j s.own s.used (of e) _ h lines)
      (let old = h.used in grind (arith, nat_tests)) (grind arith) (grind arith))

  -- the same by a call that the limit does not count
  exchanged : (e : Event) (j' : Junction D B) (x : Station) (o : Own) → of e < n → limited e ≡ false → j'.size.stations ≡ n → j'.stations.at ≡ set j.stations.at (of e) x → j'.board ≡ j.board → j'.counts.used ≡ j.counts.used → x ≡ kept_of o → o.arrivals ≡ (s.own (of e)).arrivals → ((y : Part) → line y (s.own (of e)) ≡ line y o) → R e j' (done o)
  exchanged e j' x o lt free size at board used is same lines =
      let ar = h.arrivals (of e) in
      advances t m law apart n j j' s e (done o) lt refl h
      (puts t m law apart n j j' s e o x lt h size at is
      (subst (λ b. Touched t m law apart n j.board b (of e) (λ y. line y o)) (sym board) (untouched t m law apart n j s.own s.used (of e) _ h lines))
      (let old = h.used in grind arith) (let old = h.within in grind arith) (grind arith))

  pub call_step : (c : Call) → R (event t m j c) (call_leaves t m j c) (reply t n j.name s (event t m j c))
  call_step = by_call t m j s alike (λ e j' a r. R e j' r) (record {
    refusing = λ e x. stays t m law apart n j s e x h;
    starting = λ p lt ul. renewed (start p) _ _ by_start lt ul refl refl (ap (λ (b : Station). at_record (t.starts n b.rec) b) (h.stations p lt)) refl (λ x. stands_line x (t.starts n (s.own p).rec) (s.own p));
    failing = λ p lt ul. renewed (fail p) _ _ (by_fail (runs.holds t (place j p))) lt ul refl refl (ap (λ (b : Station). at_record failed b) (h.stations p lt)) refl (λ x. stands_line x failed (s.own p));
    stirring = λ p lt ul. counts (stir p) (done (runs.stirred t n p (s.own p))) _ by_start lt refl refl refl ul refl
        (retouch t m law apart n j.board _ p _ _
        (λ x. ap (λ (b : Station). cond (runs.stirs b.rec.place (runs.next_go t n p b.rec) x) loose (line x (s.own p))) (h.stations p lt)
        ∙ lines_at x (λ y. cond (runs.stirs (s.own p).rec.place (runs.next_go t n p (s.own p).rec) y) loose (line y (s.own p))) (s.own p))
        (touch_stir t m law apart n j.board p (place j p) (next_go t m j p) _ h.room (untouched t m law apart n j s.own s.used p _ h (λ x. refl))));
    going = λ p k g lt ul. act_step p k (bit t m j s p k) (heard t m n j.board (look_of t m j p k)) g lt ul
        (touch_read t m law apart n j.board p _ (look_of t m j p k) (untouched t m law apart n j s.own s.used p _ h (λ x. refl)));
    passing = λ p lt. exchanged (take p) _ (pass_taken (station j p)) _ lt refl refl refl refl refl (ap (λ (b : Station). pass_taken b) (h.stations p lt)) refl (λ x. takes_line x (s.own p));
    leaving = λ c lt. exchanged (leave (ticket c)) _ (at_record (to_number release_place (station j c.station).rec) (station j c.station)) _ lt refl refl refl refl refl (ap (λ (b : Station). at_record (to_number release_place b.rec) b) (h.stations c.station lt)) refl (λ x. stands_line x (to_number release_place (s.own c.station).rec) (s.own c.station));
    voiding = λ c lt. idles (void (ticket c)) (done (s.own c.station)) lt refl refl refl;
  })
