-- The accesses that an instruction makes, by the bytes that they get, and what it has still to do after them.
use Rattle.std.specs.Prelude.{ℕ, List, [], ◌∷◌}
use Rattle.spc_tables.specs.declared.access.SpcAccess.{SpcAccess}
use Rattle.spc_tables.specs.declared.regs.SpcRegs.{SpcRegs}
use Rattle.spc_modes.specs.Orders.{instruction}
use Rattle.spc_modes.specs.Plan.{Plan, first_access, after, plan_after}

-- the accesses that a plan makes, as many as there are bytes; where an access gets none, its entry counts for nothing
abbrev pub accesses_along : Plan → List ℕ → List SpcAccess
accesses_along plan [] = []
accesses_along plan (byte ∷ bytes) = first_access plan ∷ accesses_along (after plan byte) bytes

-- the accesses of an instruction that begins with these registers
abbrev pub accesses_of : SpcRegs → List ℕ → List SpcAccess
accesses_of r bytes = accesses_along (instruction r) bytes

-- what it has still to do after them
abbrev pub left_after : SpcRegs → List ℕ → Plan
left_after r bytes = plan_after (instruction r) bytes
