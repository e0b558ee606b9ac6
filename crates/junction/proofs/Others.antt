-- A call on one station leaves every other station, and every line of it, as they were.
use Rattle.std.proofs.Common.{◌≡◌, ℕ, ◌≢◌, Some, refl, subst, arith, get_or-set_other}
use Rattle.boards.specs.Lines.{Meaning, Lawful}
use Rattle.steps.specs.declared.lines.Part.{Part}
use Rattle.steps.specs.declared.go.Go.{Go}
use Rattle.steps.specs.declared.go.Go.TheVariants.{Idle, Waits, WrongPick, MustLeave, Moves, Settles}
use Rattle.steps.specs.Rows.{flag}
use Rattle.steps.specs.Table.{Table}
use Rattle.runs.specs.Laws.{LinesApart}
use Rattle.runs.specs.Runs.{State, of, line}
use Rattle.junction.specs.declared.stations.Station.{Station}
use Rattle.junction.specs.declared.state.Junction.{Junction}
use Rattle.junction.specs.Stations.{blank}
use Rattle.junction.specs.Wires.{heard}
use Rattle.junction.specs.Calls.{station, place, with_board, putting, acted, look_of, next_go}
use Rattle.junction.specs.Promise.{Call, named, call_leaves, event}
use Rattle.junction.proofs.ByCall.{by_call}
use Rattle.junction.proofs.Touch.{Touched, touch_settle, touch_stir, touch_read}
use Rattle.junction.proofs.Agree.{Sofar, alike, untouched}

module _ {D B : Type 0} (t : Table) (m : Meaning B) (law : Lawful m) (apart : LinesApart t) (j : Junction D B) (s : State) (h : Sofar t m law apart j.size.stations j s.own s.used) where
  abbrev n : ℕ
  n = j.size.stations

  -- i has j's stations and lines, but for station p
  pub record Besides (p : ℕ) (i : Junction D B) : Type 0 where
    pub stations : (q : ℕ) → q ≢ p → station i q ≡ station j q
    pub lines : (q : ℕ) (x : Part) (l : ℕ) → q ≢ p → t.number n (flag q x) ≡ Some l → m.line i.board l ≡ m.line j.board l

  nothing : (p : ℕ) → Besides p j
  nothing p = record { stations = λ q d. refl; lines = λ q x l d at. refl }

  put_aside : (p q : ℕ) (x : Station) → q ≢ p → station (putting j p x) q ≡ station j q
  put_aside p q x d = get_or-set_other j.stations.at p q x blank d

  still : (p : ℕ) → Touched t m law apart n j.board j.board p (λ x. line x (s.own p))
  still p = untouched t m law apart n j s.own s.used p _ h (λ x. refl)

  acted_aside : (p : ℕ) (b : B) (g : Go) → Touched t m law apart n j.board b p (λ x. line x (s.own p)) → Besides p (acted t m (with_board j b) p g)
  acted_aside p b Idle k = record { stations = λ q d. refl; lines = k.other_line }
  acted_aside p b Waits k = record { stations = λ q d. refl; lines = k.other_line }
  acted_aside p b WrongPick k = record { stations = λ q d. refl; lines = k.other_line }
  acted_aside p b MustLeave k = record { stations = λ q d. refl; lines = k.other_line }
  acted_aside p b (Moves x) k = record { stations = λ q d. put_aside p q _ d; lines = k.other_line }
  acted_aside p b (Settles y v x) k = record {
    stations = λ q d. put_aside p q _ d;
    lines = (touch_settle t m law apart n j.board b p (λ z. line z (s.own p)) y v h.room k).other_line;
  }

  besides : (c : Call) → Besides (of (event t m j c)) (call_leaves t m j c)
  besides = by_call t m j s (alike t m law apart j s h) (λ e i a r. Besides (of e) i) (record {
    refusing = λ e x. nothing (of e);
    starting = λ p lt ul. record { stations = λ q d. put_aside p q _ d; lines = λ q x l d at. refl };
    failing = λ p lt ul. record { stations = λ q d. put_aside p q _ d; lines = λ q x l d at. refl };
    stirring = λ p lt ul. record { stations = λ q d. refl; lines = (touch_stir t m law apart n j.board p (place j p) (next_go t m j p) _ h.room (still p)).other_line };
    going = λ p k g lt ul. acted_aside p (heard t m n j.board (look_of t m j p k)) g (touch_read t m law apart n j.board p _ (look_of t m j p k) (still p));
    passing = λ p lt. record { stations = λ q d. put_aside p q _ d; lines = λ q x l d at. refl };
    leaving = λ c lt. record { stations = λ q d. put_aside c.station q _ d; lines = λ q x l d at. refl };
    voiding = λ c lt. nothing c.station;
  })

  of_named : (c : Call) → of (event t m j c) ≡ named c
  of_named c = grind arith

  pub others : (c : Call) → Besides (named c) (call_leaves t m j c)
  others c = subst (λ p. Besides p (call_leaves t m j c)) (of_named c) (besides c)
