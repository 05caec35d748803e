-- Accesses of the processor that follow one another in one call, told by how many more may be made.
use Rattle.std.specs.Prelude.{◌≡◌, ℕ, ◌-◌, ◌≤◌}
use Rattle.snes_defs.specs.declared.ports.Act.TheVariants.{Quiet}
use Rattle.spc_tables.specs.declared.access.SpcAccess.{SpcAccess}
use Rattle.spc700.specs.Instruction.{SpcState}
use Rattle.spc700.specs.Stands.{Stands}
use Rattle.spc700.specs.declared.processor.Spc.{Spc}
use Rattle.audio_side.specs.Effect.{act_of, effect, given}
use Rattle.audio_side.specs.HardwareState.{HardwareState}
use Rattle.audio_side.specs.Runs.{HasRun}

-- an access that is at no port gets a byte, and leaves the hardware as it is
pub record Gets (access : SpcAccess) (b : HardwareState) (byte : ℕ) : Type 0 where
  pub quiet : act_of access ≡ Quiet
  pub still : effect b access ≡ b
  pub got : given b access 0 ≡ byte

-- from a processor and its hardware quiet accesses led to these, as many as are left fewer
pub record Follows (spc spc' : Spc) (b b' : HardwareState) (left left' : ℕ) : Type 0 where
  pub fewer : left' ≤ left
  pub come : (s : SpcState) → Stands spc s → HasRun spc' b' s b (left - left')
