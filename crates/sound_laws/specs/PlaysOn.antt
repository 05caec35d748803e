-- A sound side that was taken out of a job into a sound file, beside the one that goes on in the job.
use Rattle.std.specs.Prelude.{◌≡◌, ℕ, Bool, true, false, not, ◌/◌, ◌==◌, ◌&&◌, ◌||◌, nat_le, List, [], length, slice_index}
use Rattle.snes_defs.specs.declared.region.Region.TheVariants.{Ntsc}
use Rattle.spc_tables.specs.declared.regs.SpcRegs.{SpcRegs}
use Rattle.spc700.specs.Instruction.{between}
use Rattle.audio_side.specs.HardwareState.{HardwareState}
use Rattle.audio_side.specs.Effect.{sampled, sample_bytes, timed}
use Rattle.audio_side.specs.FromParts.{hardware_from}
use Rattle.audio_side.specs.Kept.{kept_ram}
use Rattle.audio_side.specs.Sound.{SoundState, hardware_before_end}
use Rattle.spc_player.specs.Play.{Playing, after_steps}
use Rattle.spc_player.specs.SoundFile.{Image}

-- how many cycles pass until every rate of envelopes and noise has its events again: 30,720 samples
abbrev pub period : ℕ
period = 983040

-- the sound side of a job of Ntsc without resets at the start of an instruction, with these bytes at its incoming ports,
-- to which nobody writes
abbrev pub goes_on : SpcRegs → HardwareState → ℕ → List ℕ → Playing
goes_on regs b cycle ports' =
    record { sound = record { processor = between regs; hardware = b; clock = record { region = Ntsc; resets = []; cycle = cycle; room = 0 } }; ports = ports' }

-- the file that is taken there, with these bytes of the S-DSP
abbrev pub file_of : SpcRegs → HardwareState → List ℕ → List ℕ → Image
file_of regs b dsp ports' = record { regs = regs; ram = kept_ram b ports'; dsp = dsp }

-- RAM that the processor doesn't see: under the registers F0 to F7 and FA to FF, and under the boot ROM where that is seen
abbrev pub is_register : ℕ → Bool
is_register at = nat_le 0xF0 at && nat_le at 0xFF && not (at == 0xF8 || at == 0xF9)

abbrev pub is_hidden : Bool → ℕ → Bool
is_hidden seen at = is_register at || (seen && nat_le 0xFFC0 at)

-- one RAM is the other but for such bytes
pub record IsAlike (seen : Bool) (other one : List ℕ) : Type 0 where
  pub size : length other ≡ length one
  pub same : (at : ℕ) → is_hidden seen at ≡ false → slice_index other at ≡ slice_index one at

-- a hardware with another RAM and boot ROM
abbrev pub with_memory : HardwareState → List ℕ → List ℕ → HardwareState
with_memory b ram' boot' = record b { ram = ram'; boot = boot' }

-- THE FILE GIVES BACK THE BOARD: all but RAM that the processor doesn't see, and the boot ROM where it isn't seen. So
-- the stages of the timers are 0, voices and noise are those of an S-DSP into which the 128 bytes were written, and the
-- echo has heard nothing
pub record GivesBack (b : HardwareState) (dsp table ports : List ℕ) : Type 0 where
  pub ram_size : length b.ram ≡ 65536
  pub four_ports : length ports ≡ 4
  pub ram' : List ℕ
  pub boot' : List ℕ
  pub hardware : hardware_from (kept_ram b ports) dsp table ≡ with_memory b ram' boot'
  pub alike : IsAlike b.boot_seen ram' b.ram
  pub boot_same : b.boot_seen ≡ true → boot' ≡ b.boot

-- SAMPLE s LOOKS AT NO SUCH BYTE: with any others it makes the same hardware, and the same two numbers
pub record IsBlind (seen : Bool) (s : ℕ) (b : HardwareState) : Type 0 where
  pub makes : (ram' boot' : List ℕ) → IsAlike seen ram' b.ram
      → (later : List ℕ) × IsAlike seen later (sampled s b).ram × (sampled s (with_memory b ram' boot') ≡ with_memory (sampled s b) later boot')
  pub heard : (ram' boot' : List ℕ) → IsAlike seen ram' b.ram → sample_bytes s (with_memory b ram' boot') ≡ sample_bytes s b

-- the hardware at the end of the next cycle, before a sample
abbrev pub at_end : SoundState → HardwareState
at_end m = timed m.clock.cycle (hardware_before_end m)

-- so it stays: at no end of a cycle a sample would look at such a byte, and F1 neither shows nor hides the boot ROM
pub record StaysBlind (seen : Bool) (w : Playing) : Type 0 where
  pub blind : (n : ℕ) → IsBlind seen ((after_steps w n).sound.clock.cycle / 32) (at_end (after_steps w n).sound)
  pub seen_still : (n : ℕ) → (after_steps w n).sound.hardware.boot_seen ≡ seen
