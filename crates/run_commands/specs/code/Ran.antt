-- A shot as the code has it.
use Rattle.std.specs.Prelude.{List}
use Rattle.backend_api.specs.declared.operation.Event.{Event}
use Rattle.output_lines.specs.declared.last.Last.{Last}
use Rattle.output_lines.specs.declared.last.Last.TheVariants.{Code, Stop}
use Rattle.output_lines.specs.declared.last.StopName.TheVariants as stop
use Rattle.qir_meaning.specs.declared.end.Ask.TheVariants as ask
use Rattle.qir_meaning.specs.declared.end.End.{End}
use Rattle.qir_meaning.specs.declared.end.End.TheVariants as end
use Rattle.run_commands.specs.declared.shot.Machine.{Machine}
use Rattle.run_commands.specs.declared.shot.Machine.TheVariants as machine
use Rattle.run_commands.specs.declared.shot.Ran.{Ran}
use Rattle.shots.specs.Shots.{Shot}

-- what the last line says of the end of a run
abbrev pub last_of : End → Last
last_of (end.Returned code) = Code code
last_of (end.Trapped why) = Stop (stop.Trap why)
last_of (end.Asks op ask.Unsupported) = Stop stop.Unsupported
last_of (end.Asks op ask.Empty) = Stop stop.Empty
last_of (end.Asks op ask.Failed) = Stop stop.Failed
last_of end.Cut = Stop stop.Cut

abbrev pub events_of : Machine → List Event
events_of (machine.Script s) = s.events
events_of (machine.Bits h) = h.events

abbrev pub shot_of : Ran → Shot
shot_of r = record { events = events_of r.machine; records = r.records; last = r.last }
