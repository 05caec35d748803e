-- A script that goes on: the console that plays the longer one.
use Rattle.std.specs.Prelude.{ℕ, ◌==◌, ◌||◌, [], ◌∷◌, ◌++◌}
use Rattle.snes_defs.specs.declared.script.Span.{Span}
use Rattle.snes_defs.specs.Script.{Script, pads_at}
use Rattle.io_math.specs.Words.{with_words}
use Rattle.console_bus.specs.BusState.{BusState}

-- a script with one span more
abbrev pub lengthened : Script → Span → Script
lengthened script span = record script { spans = script.spans ++ span ∷ [] }

-- a script with one reset more
abbrev pub reset_in : Script → ℕ → Script
reset_in script frame = record script { resets = script.resets ++ frame ∷ [] }

-- a script with memory for so many spans, and for as many resets
abbrev pub with_room : Script → ℕ → Script
with_room script n = record script { room = n }

-- another script, whose pads in this frame are held
abbrev pub told : Script → BusState → BusState
told script r =
    record r { script = script; io = with_words r.io (pads_at script.spans r.frame).0 (pads_at script.spans r.frame).1 }

-- the script goes on by a span
abbrev pub played : BusState → Span → BusState
played r span = told (lengthened r.script span) r

-- THE BUTTON IS PRESSED as a frame begins: the script has it, and if the frame has begun, a reset is due
abbrev pub pressed : BusState → ℕ → BusState
pressed r frame = record r { script = reset_in r.script frame; reset = r.frame == frame || r.reset }
