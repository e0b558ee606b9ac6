-- What one event of a schedule does, by the junction's own calls.
use Rattle.std.specs.Prelude.{ℕ, cond, List, [], ◌∷◌, Some, None, Ok, Err, Option, Result, nat_lt}
use Rattle.std.specs.Option.{unwrap_or}
use Rattle.boards.specs.Lines.{Meaning}
use Rattle.steps.specs.declared.answers.Outcome.{Outcome}
use Rattle.steps.specs.declared.answers.Refusal.{Refusal}
use Rattle.steps.specs.Answers.{refusal_number, answer_number}
use Rattle.steps.specs.Table.{Table}
use Rattle.junction.specs.declared.counts.Totals.{Totals}
use Rattle.junction.specs.declared.pass.Pass.{Pass}
use Rattle.junction.specs.declared.state.Junction.{Junction}
use Rattle.junction.specs.Calls.{start_answers, go_answers, stir_answers, fail_answers, take_answers}
use Rattle.junction.specs.TakeLeave.{take_leave_answers}
use Rattle.junction.specs.Telling.{place_at}
use Rattle.junction.specs.Promise.{Call, to_start, to_stir, to_fail, to_take, to_go, to_leave, after}
use Rattle.schedule.specs.declared.event.Event.{Event}
use Rattle.schedule.specs.declared.event.Event.TheVariants.{Start, Go, Stir, Fail, Leave}
use Rattle.schedule.specs.Letters.{letter_of, station_of}
use Rattle.report.specs.Lines.{event_line}
use Rattle.play.specs.declared.entries.GrantEntry.{GrantEntry}
use Rattle.play.specs.declared.entries.RefusalEntry.{RefusalEntry}
use Rattle.play.specs.declared.event.Written.{Written}

-- The calls of a take that is answered so, the newest first.
abbrev pub take_calls : ℕ → Result Pass Refusal → List Call
take_calls p (Ok pass) = to_leave pass ∷ (to_take p ∷ [])
take_calls p (Err e) = to_take p ∷ []

module _ {D B : Type 0} (t : Table) (m : Meaning B) where
  abbrev pub answer : Junction D B → Event → Result Outcome Refusal
  answer j (Start p) = start_answers t m j p
  answer j (Go p k) = go_answers t m j p k
  answer j (Stir p) = stir_answers t m j p
  answer j (Fail p) = fail_answers t m j p
  answer j (Leave p) = take_leave_answers t m j p

  -- The calls that an event makes, the newest first: one, or the two of an L.
  abbrev pub calls_of : Junction D B → Event → List Call
  calls_of j (Start p) = to_start p ∷ []
  calls_of j (Go p k) = to_go p k ∷ []
  calls_of j (Stir p) = to_stir p ∷ []
  calls_of j (Fail p) = to_fail p ∷ []
  calls_of j (Leave p) = take_calls p (take_answers t m j p)

  -- The junction after an event is the one that its calls leave, so that the promise over all lists of calls speaks of it.
  abbrev pub after_event : Junction D B → Event → Junction D B
  after_event j e = after t m j (calls_of j e)

-- Noted where an event raised the junction's count of grants.
abbrev pub grant_between : Totals → Totals → ℕ → Option GrantEntry
grant_between before after p = cond (nat_lt before.grants after.grants) (Some (record { station = p; rounds = after.rounds })) None

abbrev pub refusal_of : Result Outcome Refusal → Event → ℕ → Option RefusalEntry
refusal_of (Ok o) e i = None
refusal_of (Err r) e i = Some (record { event = e; index = i; number = refusal_number r })

-- What event e, which stands at index i, comes to: its line, which shows place 0 for an unknown station, and what is noted.
abbrev pub written_of : {D B : Type 0} → Table → Meaning B → Junction D B → Event → ℕ → Written
written_of t m j e i = record {
  line = event_line (letter_of e) (station_of e) (unwrap_or (place_at (after_event t m j e) (station_of e)) 0) (answer_number (answer t m j e));
  grant = grant_between j.counts.totals (after_event t m j e).counts.totals (station_of e);
  refusal = refusal_of (answer t m j e) e i;
}
