-- What contracts see of a processor: the instruction and the accesses so far that it stands for, what it does
-- next, and what it is once an instruction is in hand.
use Rattle.std.specs.Prelude.{◌≡◌, ℕ, Bool, false, Option, Some, None}
use Rattle.cpu_tables.specs.declared.access.Access.{Access}
use Rattle.cpu_tables.specs.declared.regs.Regs.{Regs}
use Rattle.cpu_modes.specs.Plan.{Plan, finished, first_access}
use Rattle.cpu_modes.specs.Remaining.{remaining}
use Rattle.cpu65816.specs.Instruction.{CpuState, left_of, ahead, end_of, registers_by, chosen, kept_after}
use Rattle.cpu65816.specs.declared.processor.Cpu.{Cpu}

-- A processor stands for an instruction and its accesses so far where it leaves to do what they leave, and has the same
-- lines. It has the same start too, unless the instruction has ended: then nothing speaks of its start any more.
pub record Stands (cpu : Cpu) (s : CpuState) : Type 0 where
  pub left : remaining cpu.micro ≡ left_of s
  pub start : finished false (remaining cpu.micro) ≡ None → cpu.micro.start ≡ s.start
  pub kept : cpu.kept ≡ s.kept
  pub nmi_level : cpu.nmi_level ≡ s.nmi_level
  pub irq_level : cpu.irq_level ≡ s.irq_level

-- what a processor does next
abbrev pub ahead_of : Cpu → Plan
ahead_of cpu = ahead cpu.kept cpu.irq_level (remaining cpu.micro)

-- its next access
abbrev pub access_of : Cpu → Access
access_of cpu = first_access (ahead_of cpu)

-- the registers at the start of the instruction that an access belongs to
abbrev pub start_of : Cpu → Regs
start_of cpu = registers_by (end_of cpu.kept cpu.irq_level (remaining cpu.micro)) cpu.micro.start

-- whether an NMI edge is kept after the next access
abbrev pub kept_by : Option Regs → Bool → Bool → Bool
kept_by None kept irq_level = kept
kept_by (Some r) kept irq_level = kept_after (chosen kept irq_level r) kept

-- once an instruction is in hand: the next one, where the last has ended
pub record TakesUp (old new : Cpu) : Type 0 where
  pub left : remaining new.micro ≡ ahead_of old
  pub start : new.micro.start ≡ start_of old
  pub kept : new.kept ≡ kept_by (end_of old.kept old.irq_level (remaining old.micro)) old.kept old.irq_level
  pub nmi_level : new.nmi_level ≡ old.nmi_level
  pub irq_level : new.irq_level ≡ old.irq_level
