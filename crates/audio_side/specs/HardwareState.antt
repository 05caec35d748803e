-- The sound side without its processor and its clock: RAM, boot ROM, timers, and the S-DSP.
use Rattle.std.specs.Prelude.{ℕ, Bool, true, ◌+◌, ◌*◌, List, map, replicate, slice_index}
use Rattle.std.specs.List.{range_with_len}
use Rattle.snes_defs.specs.declared.profile.Profile.{Profile}
use Rattle.sdsp_voice.specs.Registers.{at_power_on}
use Rattle.sdsp_voice.specs.declared.voices.Voices.{Voices}
use Rattle.sdsp_echo.specs.Echo.{silent_echo}
use Rattle.sdsp_echo.specs.declared.echo.Echo.{Echo}
use Rattle.audio_side.specs.Timer.{stopped}
use Rattle.audio_side.specs.declared.timer.Timer.{Timer}

pub record HardwareState : Type 0 where
  -- the 64 bytes of the boot ROM, and the 512 numbers of the interpolation table
  pub boot : List ℕ
  pub table : List ℕ
  -- the 65,536 bytes of RAM
  pub ram : List ℕ
  pub voices : Voices
  pub echo : Echo
  pub timer0 : Timer
  pub timer1 : Timer
  pub timer2 : Timer
  -- F1 bit 7: FFC0 to FFFF read the boot ROM
  pub boot_seen : Bool
  -- F2, the address of the S-DSP's registers
  pub address : ℕ

-- 64 KiB, which start as zeros
unfoldable pub ram_size : ℕ
ram_size = 65536

unfoldable pub zeros : List ℕ
zeros = replicate ram_size 0

-- the 512 numbers of an interpolation table
unfoldable pub table_of : List ℕ → List ℕ
table_of table = map (λ i. slice_index table i) (range_with_len 0 512)

-- THE BOARD of a job before its first cycle
unfoldable pub hardware_at_start : Profile → List ℕ → List ℕ → HardwareState
hardware_at_start profile boot' table' =
    record {
      boot = boot';
      table = table_of table';
      ram = zeros;
      voices = at_power_on profile;
      echo = silent_echo;
      timer0 = stopped;
      timer1 = stopped;
      timer2 = stopped;
      boot_seen = true;
      address = 0;
    }

-- where the processor begins: the boot ROM's word at FFFE
abbrev pub vector : HardwareState → ℕ
vector b = slice_index b.boot 62 + 256 * slice_index b.boot 63
