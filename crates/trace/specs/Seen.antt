-- What a step shows: its line if it is completed, nothing if it stops.
-- Assumes nothing.
use Rattle.std.specs.Prelude.{None, Option, Some}
use Rattle.machine.specs.Step.{Stepped, stopped, completed}
use Rattle.machine.specs.declared.Line.{Line}

abbrev pub seen_in : Stepped → Option Line
seen_in (stopped r) = None
seen_in (completed d m k x) = Some x
