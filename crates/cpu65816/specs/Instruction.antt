-- The processor as a whole: what begins an instruction, its next access and what that makes of it, the NMI
-- and IRQ lines, WAI and the reset (W65C816S data sheet, interrupts and reset).
use Rattle.std.specs.Prelude.{ℕ, Bool, true, false, List, [], ◌∷◌, ◌++◌, Option, Some, None, ◌&&◌, ◌||◌, not, if◌then◌else◌}
use Rattle.status_bits.specs.StatusBits.{flag}
use Rattle.cpu_tables.specs.declared.access.Access.{Access}
use Rattle.cpu_tables.specs.declared.flags.TheConstants.{IRQ_DISABLE}
use Rattle.cpu_tables.specs.declared.mode.Mode.TheVariants.{Stack}
use Rattle.cpu_tables.specs.declared.opcode.Row.{Row}
use Rattle.cpu_tables.specs.declared.operation.Op.{Op}
use Rattle.cpu_tables.specs.declared.operation.Op.TheVariants.{Nmi, Irq, Reset}
use Rattle.cpu_tables.specs.declared.regs.Regs.{Regs}
use Rattle.cpu_modes.specs.Orders.{instruction, order}
use Rattle.cpu_modes.specs.Plan.{Plan, ends, plan_after, finished, first_access}

-- what begins an instruction
pub data Beginning : Type 0 where
  opcode : Beginning
  nmi : Beginning
  irq : Beginning
  reset : Beginning

-- the row of a beginning that no opcode has
abbrev pub row_of_signal : Op → Row
row_of_signal op = record { op = op; mode = Stack }

-- the accesses of an instruction, by what began it and the registers at its start
abbrev pub plan_of : Beginning → Regs → Plan
plan_of opcode r = instruction r
plan_of nmi r = order (row_of_signal Nmi) r
plan_of irq r = order (row_of_signal Irq) r
plan_of reset r = order (row_of_signal Reset) r

-- What a processor stands for: an instruction, the bytes got by the accesses made so far (where an access got none, its entry counts for nothing), and the two lines.
pub record CpuState : Type 0 where
  -- the registers at the start of the instruction
  pub start : Regs
  -- what began it; nothing has where no access was made since the last one ended
  pub begun : Option Beginning
  pub got : List ℕ
  -- whether an edge of the NMI line is kept
  pub kept : Bool
  -- the levels of the two lines as they were last given
  pub nmi_level : Bool
  pub irq_level : Bool

-- an NMI edge that is kept begins the next instruction, else the IRQ line where interrupts aren't disabled, else the next opcode
abbrev pub chosen : Bool → Bool → Regs → Beginning
chosen kept irq_level r = if kept then nmi else if irq_level && not (flag r.p IRQ_DISABLE) then irq else opcode

-- what the accesses made so far leave to do
abbrev pub left_by : Option Beginning → Regs → List ℕ → Plan
left_by None r got = ends r
left_by (Some beginning) r got = plan_after (plan_of beginning r) got

abbrev pub left_of : CpuState → Plan
left_of s = left_by s.begun s.start s.got

-- WAI goes on waiting until an NMI edge is kept or the IRQ line is set, whether interrupts are disabled or not
abbrev pub end_of : Bool → Bool → Plan → Option Regs
end_of kept irq_level plan = finished (kept || irq_level) plan

-- what is to be done next: what is left of the instruction, or where that has ended, all of the next one
abbrev pub ahead_by : Option Regs → Bool → Bool → Plan → Plan
ahead_by None kept irq_level plan = plan
ahead_by (Some r) kept irq_level plan = plan_of (chosen kept irq_level r) r

abbrev pub ahead : Bool → Bool → Plan → Plan
ahead kept irq_level plan = ahead_by (end_of kept irq_level plan) kept irq_level plan

-- THE NEXT ACCESS
abbrev pub next_of : CpuState → Access
next_of s = first_access (ahead s.kept s.irq_level (left_of s))

-- whether an NMI edge is kept once an instruction has begun
abbrev pub kept_after : Beginning → Bool → Bool
kept_after opcode kept = kept
kept_after nmi kept = false
kept_after irq kept = kept
kept_after reset kept = kept

abbrev pub begun_with : Beginning → Regs → ℕ → CpuState → CpuState
begun_with beginning r byte s = record s { start = r; begun = Some beginning; got = byte ∷ []; kept = kept_after beginning s.kept }

abbrev pub moved_by : Option Regs → ℕ → CpuState → CpuState
moved_by None byte s = record s { got = s.got ++ byte ∷ [] }
moved_by (Some r) byte s = begun_with (chosen s.kept s.irq_level r) r byte s

-- AFTER THE NEXT ACCESS, which got this byte if it is a fetch or a read
abbrev pub moved_on : CpuState → ℕ → CpuState
moved_on s byte = moved_by (end_of s.kept s.irq_level (left_of s)) byte s

-- AFTER THE LINES WERE GIVEN: a rise of the NMI line is kept
abbrev pub signalled : CpuState → Bool → Bool → CpuState
signalled s nmi' irq' = record s { kept = s.kept || (nmi' && not s.nmi_level); nmi_level = nmi'; irq_level = irq' }

-- THE REGISTERS at the start of the instruction in hand; where the last one has ended, those after it
abbrev pub registers_by : Option Regs → Regs → Regs
registers_by None start = start
registers_by (Some r) start = r

abbrev pub registers_of : CpuState → Regs
registers_of s = registers_by (end_of s.kept s.irq_level (left_of s)) s.start

-- after a reset: emulation mode, interrupts disabled, the stack at the end of page 1
abbrev pub reset_registers : Regs
reset_registers = record { a = 0; x = 0; y = 0; s = 0x01FF; d = 0; pc = 0; pbr = 0; dbr = 0; p = 0x34; e = true }

abbrev pub at_reset : CpuState
at_reset = record { start = reset_registers; begun = Some reset; got = []; kept = false; nmi_level = false; irq_level = false }

-- before the first access of an instruction, with both lines low
abbrev pub between_instructions : Regs → CpuState
between_instructions r = record { start = r; begun = None; got = []; kept = false; nmi_level = false; irq_level = false }
