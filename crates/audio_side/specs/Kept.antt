-- What a sound file keeps of a sound side that runs. What it has no place for: the stages of the timers, where the voices
-- and the noise stand, what was written to KON since the last sample, the echo's histories and its offset, the number of
-- the cycle, and the profile.
use Rattle.std.specs.Prelude.{ℕ, Bool, zero, suc, ◌+◌, List, slice_index, slice_set, if◌then◌else◌}
use Rattle.audio_side.specs.HardwareState.{HardwareState}

abbrev pub weight_of : Bool → ℕ → ℕ
weight_of on weight = if on then weight else 0

-- F1: the boot ROM is seen (bit 7), the timers are on (bits 0 to 2)
unfoldable pub control_of : HardwareState → ℕ
control_of b =
    weight_of b.boot_seen 128 + weight_of b.timer2.on 4 + weight_of b.timer1.on 2 + weight_of b.timer0.on 1

-- RAM with the first n bytes of the boot ROM over it
unfoldable pub under_boot : List ℕ → List ℕ → ℕ → List ℕ
under_boot ram' boot' zero = ram'
under_boot ram' boot' (suc n) = slice_set (under_boot ram' boot' n) (0xFFC0 + n) (slice_index boot' n)

-- RAM as the processor sees it: the boot ROM is over its last 64 bytes, where it is seen
unfoldable pub seen_ram : HardwareState → List ℕ
seen_ram b = if b.boot_seen then under_boot b.ram b.boot 64 else b.ram

-- THE RAM OF A FILE: F1, F2, the incoming ports under F4 to F7, the targets under FA to FC, the counters under FD to FF
unfoldable pub ports_kept : List ℕ → List ℕ → List ℕ
ports_kept ram' ports =
    slice_set (slice_set (slice_set (slice_set ram' 0xF4 (slice_index ports 0)) 0xF5 (slice_index ports 1)) 0xF6 (slice_index ports 2)) 0xF7 (slice_index ports 3)

unfoldable pub timers_kept : HardwareState → List ℕ → List ℕ
timers_kept b ram' =
    slice_set (slice_set (slice_set (slice_set (slice_set (slice_set ram' 0xFA b.timer0.target) 0xFB b.timer1.target) 0xFC b.timer2.target) 0xFD b.timer0.counter) 0xFE b.timer1.counter) 0xFF b.timer2.counter

unfoldable pub kept_ram : HardwareState → List ℕ → List ℕ
kept_ram b ports = timers_kept b (ports_kept (slice_set (slice_set (seen_ram b) 0xF1 (control_of b)) 0xF2 b.address) ports)
