-- What one access of the sound side's processor does: RAM, the boot ROM over it, and the registers F0 to FF (nocash fullsnes, "SNES APU Memory and I/O Map"; the timers' order: this project's own profile).
use Rattle.std.specs.Prelude.{ℕ, Bool, true, ◌+◌, ◌-◌, ◌/◌, ◌%◌, ◌==◌, ◌&&◌, ◌||◌, nat_le, nat_lt, List, [], ◌∷◌, slice_index, slice_set, if◌then◌else◌}
use Rattle.std.specs.Int.{w16, cast_unsigned}
use Rattle.snes_defs.specs.declared.ports.Act.{Act}
use Rattle.snes_defs.specs.declared.ports.Act.TheVariants.{Quiet, Read, Write, Clear}
use Rattle.spc_tables.specs.declared.access.SpcAccess.{SpcAccess}
use Rattle.spc_tables.specs.declared.access.SpcAccess.TheVariants as Access
use Rattle.sdsp_voice.specs.Registers.{at_reset, bit, read, written}
use Rattle.sdsp_voice.specs.Sample.{after_sample, sums_of}
use Rattle.sdsp_echo.specs.Echo.{after_mix, left_out, right_out, ram_after}
use Rattle.audio_side.specs.HardwareState.{HardwareState}
use Rattle.audio_side.specs.Timer.{stopped, switched, ticked}

-- what F0 to FF show: F4 to F7 are the ports, whose byte is `got`
unfoldable pub register_shown : HardwareState → ℕ → ℕ → ℕ
register_shown b at got =
    if at == 0xF2 then b.address
    else (if at == 0xF3 then read b.voices (b.address % 128)
    else (if nat_le 0xF4 at && nat_le at 0xF7 then got
    else (if at == 0xF8 then slice_index b.ram 0xF8
    else (if at == 0xF9 then slice_index b.ram 0xF9
    else (if at == 0xFD then b.timer0.counter
    else (if at == 0xFE then b.timer1.counter
    else (if at == 0xFF then b.timer2.counter
    else 0)))))))

-- THE BYTE that a fetch or a read at an address gets
unfoldable pub loaded : HardwareState → ℕ → ℕ → ℕ
loaded b at got =
    if nat_lt at 0xF0 then slice_index b.ram at
    else (if nat_lt at 0x100 then register_shown b at got
    else (if nat_le 0xFFC0 at && b.boot_seen then slice_index b.boot (at - 0xFFC0)
    else slice_index b.ram at))

-- after it: a counter that was read is 0
unfoldable pub after_load : HardwareState → ℕ → HardwareState
after_load b at =
    if at == 0xFD then record b { timer0 = record b.timer0 { counter = 0 } }
    else (if at == 0xFE then record b { timer1 = record b.timer1 { counter = 0 } }
    else (if at == 0xFF then record b { timer2 = record b.timer2 { counter = 0 } }
    else b))

-- F1: the boot ROM and the timers
unfoldable pub controlled : HardwareState → ℕ → HardwareState
controlled b byte =
    record b {
      boot_seen = bit byte 7;
      timer0 = switched (bit byte 0) b.timer0;
      timer1 = switched (bit byte 1) b.timer1;
      timer2 = switched (bit byte 2) b.timer2;
    }

-- F3: the S-DSP register of F2, which takes no write where its bit 7 is set
unfoldable pub dsp_written : HardwareState → ℕ → HardwareState
dsp_written b byte = if nat_lt b.address 128 then record b { voices = written b.voices b.address byte } else b

abbrev pub stored_in_ram : HardwareState → ℕ → ℕ → HardwareState
stored_in_ram b at byte = record b { ram = slice_set b.ram at byte }

-- a write at F0 to FF: F8 and F9 are RAM
unfoldable pub register_stored : HardwareState → ℕ → ℕ → HardwareState
register_stored b at byte =
    if at == 0xF1 then controlled b byte
    else (if at == 0xF2 then record b { address = byte }
    else (if at == 0xF3 then dsp_written b byte
    else (if at == 0xF8 || at == 0xF9 then stored_in_ram b at byte
    else (if at == 0xFA then record b { timer0 = record b.timer0 { target = byte } }
    else (if at == 0xFB then record b { timer1 = record b.timer1 { target = byte } }
    else (if at == 0xFC then record b { timer2 = record b.timer2 { target = byte } }
    else b))))))

-- A WRITE: all other places are RAM, under the boot ROM too
unfoldable pub stored : HardwareState → ℕ → ℕ → HardwareState
stored b at byte = if nat_le 0xF0 at && nat_le at 0xFF then register_stored b at byte else stored_in_ram b at byte

-- THE ACT of an access: F4 to F7 are ports 0 to 3; a write of F1 clears the incoming ports 0 and 1 by bit 4, 2 and 3 by bit 5
unfoldable pub act_of_load : ℕ → Act
act_of_load at = if nat_le 0xF4 at && nat_le at 0xF7 then Read (at - 0xF4) else Quiet

abbrev pub cleared_ports : ℕ → ℕ
cleared_ports byte = (if bit byte 4 then 3 else 0) + (if bit byte 5 then 12 else 0)

unfoldable pub act_of_store : ℕ → ℕ → Act
act_of_store at byte =
    if nat_le 0xF4 at && nat_le at 0xF7 then Write (at - 0xF4) (byte % 256)
    else (if at == 0xF1 && nat_lt 0 (cleared_ports byte) then Clear (cleared_ports byte)
    else Quiet)

abbrev pub act_of : SpcAccess → Act
act_of (Access.Fetch at) = act_of_load at
act_of (Access.Read at) = act_of_load at
act_of (Access.Write at byte) = act_of_store at byte
act_of Access.Inner = Quiet

-- the byte that an access gives the processor
abbrev pub given : HardwareState → SpcAccess → ℕ → ℕ
given b (Access.Fetch at) got = loaded b at got
given b (Access.Read at) got = loaded b at got
given b (Access.Write at byte) got = 0
given b Access.Inner got = 0

-- what it does to the hardware
abbrev pub effect : HardwareState → SpcAccess → HardwareState
effect b (Access.Fetch at) = after_load b at
effect b (Access.Read at) = after_load b at
effect b (Access.Write at byte) = stored b at byte
effect b Access.Inner = b

-- A RESET: the boot ROM is seen, the timers stop, F2 is 0, FLG is E0 and KON's notes are dropped; all else stays
unfoldable pub reset_hardware : HardwareState → HardwareState
reset_hardware b =
    record b { boot_seen = true; address = 0; timer0 = stopped; timer1 = stopped; timer2 = stopped; voices = at_reset b.voices }

-- THE END OF CYCLE n: timer 2 ticks each 16 cycles, timers 0 and 1 each 128
unfoldable pub timed : ℕ → HardwareState → HardwareState
timed n b =
    record b {
      timer0 = if (n + 1) % 128 == 0 then ticked b.timer0 else b.timer0;
      timer1 = if (n + 1) % 128 == 0 then ticked b.timer1 else b.timer1;
      timer2 = if (n + 1) % 16 == 0 then ticked b.timer2 else b.timer2;
    }

-- A SAMPLE is made by the last of each 32 cycles: its number is the cycle's by 32
abbrev pub is_sampling : ℕ → Bool
is_sampling n = n % 32 == 31

-- the hardware after sample s
unfoldable pub sampled : ℕ → HardwareState → HardwareState
sampled s b =
    let voices' = after_sample b.ram b.table s b.voices in
    let sums = sums_of b.ram b.table s b.voices in
    record b {
      voices = voices';
      echo = after_mix voices' b.ram b.echo;
      ram = ram_after voices' sums b.ram b.echo;
    }

abbrev pub low_byte : ℕ → ℕ
low_byte n = n % 256

abbrev pub high_byte : ℕ → ℕ
high_byte n = n / 256

-- a number's two bytes, the low one first, left before right
abbrev pub pair_bytes : ℕ → ℕ → List ℕ
pair_bytes left right = low_byte left ∷ high_byte left ∷ low_byte right ∷ high_byte right ∷ []

unfoldable pub sample_bytes : ℕ → HardwareState → List ℕ
sample_bytes s b =
    let voices' = after_sample b.ram b.table s b.voices in
    let sums = sums_of b.ram b.table s b.voices in
    pair_bytes (cast_unsigned w16 (left_out voices' sums b.ram b.echo)) (cast_unsigned w16 (right_out voices' sums b.ram b.echo))

-- the hardware after the end of cycle n, and the bytes that it emits
unfoldable pub passed : ℕ → HardwareState → HardwareState
passed n b = if is_sampling n then sampled (n / 32) (timed n b) else timed n b

unfoldable pub emitted : ℕ → HardwareState → List ℕ
emitted n b = if is_sampling n then sample_bytes (n / 32) (timed n b) else []
