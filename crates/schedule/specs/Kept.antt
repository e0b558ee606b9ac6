-- What every schedule keeps.
use Rattle.std.specs.Prelude.{Ok, Err, IfOk, Result}
use Rattle.schedule.specs.declared.refusal.Refusal.{Refusal}
use Rattle.schedule.specs.declared.view.Schedule.{Schedule}
use Rattle.schedule.specs.Encode.{Fits}
use Rattle.schedule.specs.View.{plan}

-- Its plan is within all limits.
pub fits : (s : Schedule) → Fits (plan s)
fits s = record { some_station = s.some_station; few_stations = s.few_stations; few_events = s.few_events; short = s.short }

pub fits_if_read : (r : Result Schedule Refusal) → IfOk r (λ s. Fits (plan s))
fits_if_read (Ok s) = fits s
fits_if_read (Err e) = tt
