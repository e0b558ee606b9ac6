-- Where each letter is known, there is an event for each, and the event at an index is that of its letter and operands.
use Rattle.std.proofs.Common.{◌≡◌, ℕ, zero, suc, ◌+◌, ◌*◌, false, List, [], ◌∷◌, ◌++◌, length, get_or, drop, is_none, Some, None, Option, sym, refl, ap, ◌∙◌, arith}
use Rattle.std.proofs.lemmas.List.{get_or-drop}
use Rattle.std.specs.List.{slice_get}
use Rattle.std.specs.Option.{option_to_list}
use Rattle.schedule.specs.declared.event.Event.{Event}
use Rattle.schedule.specs.Letters.{event_of}
use Rattle.schedule.specs.Events.{first_unknown, events_of}

-- Whether a letter is known does not hang on its operands.
none_same : (c p k : ℕ) → is_none (event_of c p k) ≡ is_none (event_of c 0 0)
none_same c p k = grind arith

-- One letter is known, and so are the others.
known_more : (c : ℕ) (cs : List ℕ) → first_unknown (c ∷ cs) ≡ None → (is_none (event_of c 0 0) ≡ false) × (first_unknown cs ≡ None)
known_more c cs e = (grind arith, grind arith)

pub known_first : (c : ℕ) (cs : List ℕ) → is_none (event_of c 0 0) ≡ false → first_unknown cs ≡ None → first_unknown (c ∷ cs) ≡ None
known_first c cs h e = grind arith

one : (o : Option Event) (es : List Event) → is_none o ≡ false → (x : Event) × (o ≡ Some x) × (option_to_list o ++ es ≡ x ∷ es)
one None es e = grind arith
one (Some x) es e = (x, refl, refl)

-- The events begin with that of the first letter.
events_more : (c : ℕ) (cs ops : List ℕ) → first_unknown (c ∷ cs) ≡ None
    → (x : Event) × (event_of c (get_or ops 0 0) (get_or ops 1 0) ≡ Some x) × (events_of (c ∷ cs) ops ≡ x ∷ events_of cs (drop 2 ops))
events_more c cs ops e = one (event_of c (get_or ops 0 0) (get_or ops 1 0)) (events_of cs (drop 2 ops)) (none_same c _ _ ∙ (known_more c cs e).0)

pub event_at : (cs ops : List ℕ) (i : ℕ) → first_unknown cs ≡ None
    → slice_get (events_of cs ops) i ≡ event_of (get_or cs i 0) (get_or ops (2 * i) 0) (get_or ops (2 * i + 1) 0)
event_at [] ops i e = refl
event_at (c ∷ cs) ops zero e =
    let m = events_more c cs ops e in
    ap (λ es. slice_get es 0) m.2 ∙ sym m.1
event_at (c ∷ cs) ops (suc i) e =
    let m = events_more c cs ops e in
    let a : 2 + 2 * i ≡ 2 * suc i = omega arith in
    let b : 2 + (2 * i + 1) ≡ 2 * suc i + 1 = omega arith in
    ap (λ es. slice_get es (suc i)) m.2 ∙ event_at cs (drop 2 ops) i (known_more c cs e).1 ∙ simp (get_or-drop, a, b)

pub length_events : (cs ops : List ℕ) → first_unknown cs ≡ None → length (events_of cs ops) ≡ length cs
length_events [] ops e = refl
length_events (c ∷ cs) ops e = ap length (events_more c cs ops e).2 ∙ ap suc (length_events cs (drop 2 ops) (known_more c cs e).1)
