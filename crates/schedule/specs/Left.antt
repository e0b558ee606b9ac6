-- The events that are still to come.
use Rattle.std.specs.Prelude.{List}
use Rattle.schedule.specs.declared.event.Event.{Event}
use Rattle.schedule.specs.declared.events.Events.{Events}
use Rattle.schedule.specs.Events.{events_of}

abbrev pub left : Events → List Event
left es = events_of es.letters.now es.operands.now
