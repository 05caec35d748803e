-- The SPC700 as a whole: its next access, what that makes of it, its registers, and the start after a reset.
use Rattle.std.specs.Prelude.{ℕ, List, [], ◌∷◌, ◌++◌}
use Rattle.spc_tables.specs.declared.access.SpcAccess.{SpcAccess}
use Rattle.spc_tables.specs.declared.regs.SpcRegs.{SpcRegs}
use Rattle.spc_modes.specs.Orders.{instruction}
use Rattle.spc_modes.specs.Plan.{Plan, fetches, reads, writes, idles, stops, ends, first_access, after, plan_after}

-- What a processor stands for: an instruction, and the bytes got by its accesses so far (where an access got none, its entry counts for nothing).
pub record SpcState : Type 0 where
  -- the registers at the start of the instruction
  pub start : SpcRegs
  pub got : List ℕ

-- what the accesses made so far leave to do
abbrev pub left_of : SpcState → Plan
left_of s = plan_after (instruction s.start) s.got

-- THE NEXT ACCESS
abbrev pub next_of : SpcState → SpcAccess
next_of s = first_access (left_of s)

-- before the opcode fetch of an instruction
abbrev pub between : SpcRegs → SpcState
between r = record { start = r; got = [] }

-- in the middle of an instruction, one access further
abbrev pub one_further : SpcState → ℕ → SpcState
one_further s byte = record s { got = s.got ++ byte ∷ [] }

-- where the instruction has ended, the next one begins with the registers that it left
abbrev pub moved_to : Plan → SpcState → ℕ → SpcState
moved_to (fetches _ _) s byte = one_further s byte
moved_to (reads _ _) s byte = one_further s byte
moved_to (writes _ _ _) s byte = one_further s byte
moved_to (idles _) s byte = one_further s byte
moved_to stops s byte = one_further s byte
moved_to (ends r) s byte = between r

-- AFTER THE NEXT ACCESS, which got this byte if it is a fetch or a read
abbrev pub moved_on : SpcState → ℕ → SpcState
moved_on s byte = moved_to (after (left_of s) byte) s byte

-- THE REGISTERS at the start of the instruction in hand
abbrev pub registers_of : SpcState → SpcRegs
registers_of s = s.start

-- after a reset: all registers 0, and the program counter as the reset vector gives it
abbrev pub at_reset : ℕ → SpcState
at_reset pc' = between (record { a = 0; x = 0; y = 0; sp = 0; pc = pc'; psw = 0 })
