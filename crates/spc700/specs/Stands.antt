-- What contracts see of an SPC700: the instruction and the accesses so far that it stands for, its next
-- access, and what it is one access further.
use Rattle.std.specs.Prelude.{◌≡◌, ℕ, Option, Some, None}
use Rattle.spc_tables.specs.declared.access.SpcAccess.{SpcAccess}
use Rattle.spc_tables.specs.declared.regs.SpcRegs.{SpcRegs}
use Rattle.spc_modes.specs.Plan.{Plan, fetches, reads, writes, idles, stops, ends, first_access, after}
use Rattle.spc_modes.specs.Remaining.{remaining, ahead, start_of}
use Rattle.spc700.specs.Instruction.{SpcState, left_of}
use Rattle.spc700.specs.declared.processor.Spc.{Spc}

-- A processor stands for an instruction and its accesses so far where it leaves to do what they leave, and has the same start.
pub record Stands (spc : Spc) (s : SpcState) : Type 0 where
  pub left : ahead (remaining spc.micro) ≡ left_of s
  pub start : start_of spc.micro ≡ s.start

-- its next access
abbrev pub access_of : Spc → SpcAccess
access_of spc = first_access (ahead (remaining spc.micro))

-- the registers that an instruction has ended with
abbrev pub ended_with : Plan → Option SpcRegs
ended_with (fetches at more) = None
ended_with (reads at more) = None
ended_with (writes at byte more) = None
ended_with (idles more) = None
ended_with stops = None
ended_with (ends r) = Some r

-- those that the next instruction begins with, where the last one has ended
abbrev pub begins_with : Spc → Option SpcRegs
begins_with spc = ended_with (remaining spc.micro)

-- one access further, which got this byte if it is a fetch or a read
pub record Advances (old new : Spc) (byte : ℕ) : Type 0 where
  pub left : remaining new.micro ≡ after (ahead (remaining old.micro)) byte
  pub start : new.micro.start ≡ start_of old.micro
