-- The sound machine: a processor, its hardware and a clock, each step a cycle or a reset of one cycle. Its
-- registers F0 to FF stand in `Effect`, its timers in `Timer`, resets and stamps in `Clock`.
use Rattle.std.specs.Prelude.{◌≡◌, ℕ, List, if◌then◌else◌}
use Rattle.snes_defs.specs.declared.ports.Act.{Act}
use Rattle.snes_defs.specs.declared.ports.Act.TheVariants.{Clear}
use Rattle.snes_defs.specs.declared.profile.Profile.{Profile}
use Rattle.snes_defs.specs.declared.region.Region.{Region}
use Rattle.side_law.specs.Moves.{Moves}
use Rattle.spc700.specs.Instruction.{SpcState, at_reset, moved_on, next_of}
use Rattle.spc700.specs.Stands.{Stands}
use Rattle.spc700.specs.declared.processor.Spc.{Spc}
use Rattle.audio_side.specs.HardwareState.{HardwareState, hardware_at_start, vector}
use Rattle.audio_side.specs.Clock.{Clock, clock_at_start, gone_on, is_reset_due, stamp_now}
use Rattle.audio_side.specs.Effect.{act_of, effect, emitted, given, passed, reset_hardware}

pub record SoundState : Type 0 where
  pub processor : SpcState
  pub hardware : HardwareState
  pub clock : Clock

-- what the next step does at the ports
unfoldable pub sound_act : SoundState → Act
sound_act m = if is_reset_due m.clock then Clear 15 else act_of (next_of m.processor)

-- the processor after the next step, and the hardware before the cycle's end
unfoldable pub processor_after : SoundState → ℕ → SpcState
processor_after m got =
    if is_reset_due m.clock then at_reset (vector m.hardware)
    else moved_on m.processor (given m.hardware (next_of m.processor) got)

unfoldable pub hardware_before_end : SoundState → HardwareState
hardware_before_end m = if is_reset_due m.clock then reset_hardware m.hardware else effect m.hardware (next_of m.processor)

abbrev pub sound_next : SoundState → ℕ → SoundState
sound_next m got =
    record { processor = processor_after m got; hardware = passed m.clock.cycle (hardware_before_end m); clock = gone_on m.clock }

abbrev pub sound_moves : Moves SoundState
sound_moves =
    record {
      stamp = λ m. stamp_now m.clock;
      act = sound_act;
      next = sound_next;
      bytes = λ m got. emitted m.clock.cycle (hardware_before_end m);
    }

-- BEFORE THE FIRST CYCLE of a job
abbrev pub sound_start : Region → Profile → List ℕ → List ℕ → List ℕ → SoundState
sound_start region' profile resets' boot' table' =
    record {
      processor = at_reset (vector (hardware_at_start profile boot' table'));
      hardware = hardware_at_start profile boot' table';
      clock = clock_at_start region' resets';
    }

-- a state is one of a region's machine
abbrev pub IsSound : Region → SoundState → Type 0
IsSound region m = m.clock.region ≡ region

-- a processor stands for some instruction and its accesses so far
abbrev pub IsRunning : Spc → Type 0
IsRunning spc = ∥ ((s : SpcState) × Stands spc s) ∥₁

-- what contracts see of a sound side: its processor, its hardware, its clock, and the bytes that wait in it
pub record AudioValue : Type 0 where
  pub processor : Spc
  pub hardware : HardwareState
  pub clock : Clock
  pub waiting : List ℕ

-- the processor stands for the state's; hardware and clock are the state's
pub record StandsAt (v : AudioValue) (m : SoundState) : Type 0 where
  pub processor : Stands v.processor m.processor
  pub hardware : v.hardware ≡ m.hardware
  pub clock : v.clock ≡ m.clock
