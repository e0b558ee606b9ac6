-- What all events leave of the junction and note in the trails.
use Rattle.std.proofs.Common.{◌≡◌, List, [], ◌∷◌, ◌++◌, refl, ap, ◌∙◌}
use Rattle.boards.specs.Hold.{hold}
use Rattle.boards.specs.Lines.{Meaning}
use Rattle.boards.specs.Tape.{tape}
use Rattle.steps.specs.FourLine.{four_line}
use Rattle.steps.specs.Plain.{plain}
use Rattle.steps.specs.Table.{Table}
use Rattle.junction.specs.declared.state.Junction.{Junction}
use Rattle.junction.specs.Promise.{Call, call_leaves, after}
use Rattle.schedule.specs.declared.event.Event.{Event}
use Rattle.trails.specs.Held.{Held, put_onto, all_put}
use Rattle.play.specs.OneEvent.{calls_of, after_event}
use Rattle.play.specs.Report.{end_of, all_calls, EndsByCalls}

pub all_put-append : {X : Type 0} (h : Held X) (xs ys : List X) → all_put (all_put h xs) ys ≡ all_put h (xs ++ ys)
all_put-append h [] ys = refl
all_put-append h (x ∷ xs) ys = all_put-append (put_onto h x) xs ys

module _ {D B : Type 0} (t : Table) (m : Meaning B) where
  after_more : (j : Junction D B) (later earlier : List Call) → after t m (after t m j earlier) later ≡ after t m j (later ++ earlier)
  after_more j [] earlier = refl
  after_more j (c ∷ later) earlier = ap (λ (i : Junction D B). call_leaves t m i c) (after_more j later earlier)

  -- the junction after all events is the one that all their calls leave
  pub end_by_calls : (es : List Event) (j : Junction D B) → end_of t m j es ≡ after t m j (all_calls t m j es)
  end_by_calls [] j = refl
  end_by_calls (e ∷ es) j = end_by_calls es (after_event t m j e) ∙ after_more j (all_calls t m (after_event t m j e) es) (calls_of t m j e)

pub ends_by_calls : EndsByCalls
ends_by_calls = record {
  four_line_held = λ j es. end_by_calls four_line hold es j;
  four_line_taped = λ j es. end_by_calls four_line tape es j;
  plain_held = λ j es. end_by_calls plain hold es j;
  plain_taped = λ j es. end_by_calls plain tape es j;
}
