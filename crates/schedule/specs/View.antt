-- What a schedule that was read tells.
use Rattle.std.specs.Prelude.{Ok, Err, Result}
use Rattle.schedule.specs.declared.refusal.Refusal.{Refusal}
use Rattle.schedule.specs.declared.view.Schedule.{Schedule}
use Rattle.schedule.specs.Left.{left}
use Rattle.schedule.specs.Decode.{Plan}

abbrev pub plan : Schedule → Plan
plan s = record { discipline = s.discipline; stations = s.stations; events = left s.events; noise = s.noise.now }

abbrev pub answer : Result Schedule Refusal → Result Plan Refusal
answer (Ok s) = Ok (plan s)
answer (Err e) = Err e
