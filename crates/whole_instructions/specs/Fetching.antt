-- The bytes of an instruction in the memory, and what is reached from them.
use Rattle.std.specs.Prelude.{◌≡◌, ℕ, ◌+◌, ◌%◌, ◌<◌, ◌≤◌, ◌^◌, Some, slice_index}
use Rattle.cpu_tables.specs.Opcodes.{row_of}
use Rattle.cpu_tables.specs.declared.mode.Mode.{Mode}
use Rattle.cpu_tables.specs.declared.opcode.Row.{Row}
use Rattle.cpu_tables.specs.declared.operation.Op.{Op}
use Rattle.cpu_tables.specs.declared.regs.Regs.{Regs}
use Rattle.cpu_modes.specs.Addresses.{code, join}
use Rattle.cpu_modes.specs.Orders.{by_mode, data_at, pointer_next}
use Rattle.cpu_modes.specs.Plan.{ends}
use Rattle.cpu_modes.specs.declared.place.PointerKind.{PointerKind}
use Rattle.cpu_modes.specs.declared.place.Reach.{Reach}
use Rattle.cpu_modes.specs.declared.place.Traffic.{Traffic}
use Rattle.console_bus.specs.BusState.{BusState}
use Rattle.console_bus.specs.Memory.{IsMemoryAt, IsStretch}
use Rattle.whole_instructions.specs.Passes.{Passes}
use Rattle.whole_instructions.specs.Looks.{Looks}

-- four bytes of the program lie in the memory from `at` on, and a fetch of each lasts so many clocks
pub record HasCode (bus : BusState) (r : Regs) (at clocks : ℕ) : Type 0 where
  pub stretch : IsStretch bus.board bus.io.fast (code r) at clocks
  pub room : r.pc % 8192 ≤ 8188
  pub range : r.pc < 65536
  pub few : clocks < 256
  pub below : at < 2 ^ 33

-- a byte of the memory at an address; an access of it lasts so many clocks
pub record IsByteAt (bus : BusState) (addr byte clocks : ℕ) : Type 0 where
  pub at : ℕ
  pub memory : IsMemoryAt bus.board bus.io.fast addr at clocks
  pub is : byte ≡ slice_index bus.memory at

-- a pointer whose first byte is at an address: its word, its second byte, and the clocks of the two accesses
pub record IsPointer (kind : PointerKind) (bus : BusState) (r : Regs) (addr word last clocks : ℕ) : Type 0 where
  pub low : ℕ
  pub lasts : ℕ
  pub lasts' : ℕ
  pub first : IsByteAt bus addr low lasts
  pub second : IsByteAt bus (pointer_next kind r addr) last lasts'
  pub word_is : word ≡ join low last
  pub clocks_are : clocks ≡ lasts + lasts'

-- the opcode there is that of a row
abbrev pub IsOpcodeOf : BusState → ℕ → Row → Type 0
IsOpcodeOf bus at row = row_of (slice_index bus.memory at) ≡ Some row

-- .. of an operation and a mode
pub record IsRowAt (bus : BusState) (at : ℕ) (op : Op) (mode : Mode) : Type 0 where
  pub row : IsOpcodeOf bus at (record { op = op; mode = mode })

-- the registers past so many bytes of the program
abbrev pub past : Regs → ℕ → Regs
past r bytes = record r { pc = (r.pc + bytes) % 65536 }

-- after the opcode of an instruction of this mode, looks at so many bytes of operands and whatever follows them lead to
-- data at this address, in so many clocks. `seen` is the byte last on the data bus then
abbrev pub Reaches : Mode → Reach → BusState → Regs → Traffic → ℕ → ℕ → ℕ → ℕ → Type 0
Reaches mode reach bus r d operands clocks to seen = (row : Row) (start : Regs) (last : ℕ)
    → Looks bus start (by_mode mode d row (past r 1)) last
    start (data_at d reach row (past r (operands + 1)) to) seen clocks

-- an instruction that begins with these registers is made whole: they become these, and the bus this one
abbrev pub IsMade : Regs → Regs → BusState → BusState → Type 0
IsMade r r' bus bus' = (start : Regs) → Passes start r (ends r) (ends r') bus bus'
