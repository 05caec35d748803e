-- The three timers of the sound side: F1 bits 0-2, FA to FC, FD to FF (nocash fullsnes, "SNES APU SPC700 I/O Ports").
use Rattle.std.specs.Prelude.{Bool, false, not, ◌&&◌, ◌+◌, ◌%◌, ◌==◌, if◌then◌else◌}
use Rattle.audio_side.specs.declared.timer.Timer.{Timer}

-- A TICK of a timer that is on: its stage goes on, and at the target (0 stands for 256) it is 0 again and the counter of four bits goes on
unfoldable pub ticked : Timer → Timer
ticked t =
    if t.on then
    (if (t.stage + 1) % 256 == t.target then record t { stage = 0; counter = (t.counter + 1) % 16 }
    else record t { stage = (t.stage + 1) % 256 })
    else t

-- F1 turns a timer on or off: one that was off and is turned on begins anew
unfoldable pub switched : Bool → Timer → Timer
switched on' t =
    if on' && not t.on then record t { on = on'; stage = 0; counter = 0 }
    else record t { on = on' }

-- after a reset, and after power on
abbrev pub stopped : Timer
stopped = record { on = false; target = 0; stage = 0; counter = 0 }
