-- The events of a place, before a row is drawn and after it.
use Rattle.std.specs.Prelude.{List, ◌++◌}
use Rattle.beam.specs.declared.events.Event.{Event}
use Rattle.beam.specs.declared.events.Event.TheVariants.{Line, Blank, HdmaFrame, Refresh, HdmaLine, Timer}
use Rattle.beam.specs.declared.events.Happens.{Happens}
use Rattle.beam.specs.Events.{one_if}

abbrev pub first_of : Happens → List Event
first_of w = one_if w.line Line ++ one_if w.blank Blank ++ one_if w.hdma_frame HdmaFrame ++ one_if w.refresh Refresh

abbrev pub last_of : Happens → List Event
last_of w = one_if w.hdma_line HdmaLine ++ one_if w.timer Timer
