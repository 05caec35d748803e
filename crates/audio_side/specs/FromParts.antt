-- A sound side that begins in the middle of a piece: with registers, RAM and the bytes of the S-DSP, as a sound file keeps them (the SPC file format, v0.30; what it leaves open: this project's own profile).
use Rattle.std.specs.Prelude.{ℕ, Bool, zero, suc, ◌==◌, ◌%◌, List, [], drop, slice_index, if◌then◌else◌}
use Rattle.snes_defs.specs.declared.profile.Profile.TheVariants.{First}
use Rattle.snes_defs.specs.declared.region.Region.TheVariants.{Ntsc}
use Rattle.spc_tables.specs.declared.regs.SpcRegs.{SpcRegs}
use Rattle.spc700.specs.Instruction.{between}
use Rattle.sdsp_voice.specs.Registers.{at_power_on, bit, written}
use Rattle.sdsp_voice.specs.declared.voices.Voices.{Voices}
use Rattle.sdsp_echo.specs.Echo.{silent_echo}
use Rattle.audio_side.specs.HardwareState.{HardwareState, table_of}
use Rattle.audio_side.specs.Clock.{Clock}
use Rattle.audio_side.specs.Sound.{SoundState}
use Rattle.audio_side.specs.declared.timer.Timer.{Timer}

-- THE S-DSP, by the first profile: its registers are written in order from 00 to 7F, KON (4C) last
unfoldable pub written_below : List ℕ → ℕ → Voices
written_below dsp zero = at_power_on First
written_below dsp (suc n) =
    if n == 0x4C then written_below dsp n else written (written_below dsp n) n (slice_index dsp n)

unfoldable pub voices_from : List ℕ → Voices
voices_from dsp = written (written_below dsp 128) 0x4C (slice_index dsp 0x4C)

-- A TIMER: no tick has come since its counter last went on
unfoldable pub timer_from : Bool → ℕ → ℕ → Timer
timer_from on' target' count = record { on = on'; target = target'; stage = 0; counter = count % 16 }

-- THE BOARD, by the bytes of RAM under the registers F1 (boot ROM and timers), F2, FA to FC and FD to FF. The boot ROM is what RAM has in its place
unfoldable pub hardware_from : List ℕ → List ℕ → List ℕ → HardwareState
hardware_from ram' dsp table' =
    record {
      boot = drop 0xFFC0 ram';
      table = table_of table';
      ram = ram';
      voices = voices_from dsp;
      echo = silent_echo;
      timer0 = timer_from (bit (slice_index ram' 0xF1) 0) (slice_index ram' 0xFA) (slice_index ram' 0xFD);
      timer1 = timer_from (bit (slice_index ram' 0xF1) 1) (slice_index ram' 0xFB) (slice_index ram' 0xFE);
      timer2 = timer_from (bit (slice_index ram' 0xF1) 2) (slice_index ram' 0xFC) (slice_index ram' 0xFF);
      boot_seen = bit (slice_index ram' 0xF1) 7;
      address = slice_index ram' 0xF2;
    }

-- before the first cycle of an Ntsc machine that is never reset
abbrev pub unbroken_clock : Clock
unbroken_clock = record { region = Ntsc; resets = []; cycle = 0; room = 0 }

-- THE START from registers, RAM, the 128 bytes of the S-DSP and the interpolation table: before an opcode fetch
abbrev pub sound_from : SpcRegs → List ℕ → List ℕ → List ℕ → SoundState
sound_from regs ram' dsp table' =
    record { processor = between regs; hardware = hardware_from ram' dsp table'; clock = unbroken_clock }
