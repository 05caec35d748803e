-- A console whose script has another room, goes on, or has a reset more.
use Rattle.std.specs.Prelude.{ℕ}
use Rattle.snes_defs.specs.declared.script.Span.{Span}
use Rattle.console_bus.specs.BusState.{BusState}
use Rattle.console_bus.specs.Playing.{played, pressed, with_room}
use Rattle.console_steps.specs.ConsoleState.{ConsoleState}
use Rattle.console_machine.specs.Side.{ConsoleValue}

-- memory for so many spans, and for as many resets
abbrev pub rest_with_room : BusState → ℕ → BusState
rest_with_room r n = record r { script = with_room r.script n }

abbrev pub console_with_room : ConsoleState → ℕ → ConsoleState
console_with_room w n = record w { rest = rest_with_room w.rest n }

abbrev pub value_with_room : ConsoleValue → ℕ → ConsoleValue
value_with_room v n = record v { rest = rest_with_room v.rest n }

-- a span more, as a frame begins
abbrev pub console_played : ConsoleState → Span → ConsoleState
console_played w span = record w { rest = played w.rest span }

abbrev pub value_played : ConsoleValue → Span → ConsoleValue
value_played v span = record v { rest = played v.rest span }

-- the button pressed as a frame begins
abbrev pub console_pressed : ConsoleState → ℕ → ConsoleState
console_pressed w frame = record w { rest = pressed w.rest frame }

abbrev pub value_pressed : ConsoleValue → ℕ → ConsoleValue
value_pressed v frame = record v { rest = pressed v.rest frame }
