-- A plan, which is what an instruction has still to do, access by access; its next access, and what is left
-- after some.
use Rattle.std.specs.Prelude.{ℕ, Bool, true, false, List, [], ◌∷◌}
use Rattle.spc_tables.specs.declared.access.SpcAccess.{SpcAccess}
use Rattle.spc_tables.specs.declared.access.SpcAccess.TheVariants.{Fetch, Read, Write, Inner}
use Rattle.spc_tables.specs.declared.regs.SpcRegs.{SpcRegs}

-- What an instruction has still to do: its next access, and by the byte got there all that follows.
pub data Plan : Type 0 where
  -- a byte of the program is fetched at an address
  fetches : ℕ → (ℕ → Plan) → Plan
  -- a byte is read at an address
  reads : ℕ → (ℕ → Plan) → Plan
  -- at an address a byte is written
  writes : ℕ → ℕ → Plan → Plan
  -- an internal cycle
  idles : Plan → Plan
  -- internal cycles for ever
  stops : Plan
  -- nothing: the instruction has ended with these registers
  ends : SpcRegs → Plan

-- the access that a plan begins with; one that has ended has none, and is never asked for it
abbrev pub first_access : Plan → SpcAccess
first_access (fetches at _) = Fetch at
first_access (reads at _) = Read at
first_access (writes at byte _) = Write at byte
first_access (idles _) = Inner
first_access stops = Inner
first_access (ends _) = Inner

-- whether an access is a fetch or a read
abbrev pub gets_byte : SpcAccess → Bool
gets_byte (Fetch _) = true
gets_byte (Read _) = true
gets_byte (Write _ _) = false
gets_byte Inner = false

abbrev pub is_write : SpcAccess → Bool
is_write (Fetch _) = false
is_write (Read _) = false
is_write (Write _ _) = true
is_write Inner = false

abbrev pub is_inner : SpcAccess → Bool
is_inner (Fetch _) = false
is_inner (Read _) = false
is_inner (Write _ _) = false
is_inner Inner = true

-- what is left after the next access, where a fetch or a read got this byte
abbrev pub after : Plan → ℕ → Plan
after (fetches _ more) byte = more byte
after (reads _ more) byte = more byte
after (writes _ _ more) _ = more
after (idles more) _ = more
after stops _ = stops
after (ends r) _ = ends r

-- what is left after as many accesses as there are bytes; where an access got none, its entry counts for nothing
abbrev pub plan_after : Plan → List ℕ → Plan
plan_after plan [] = plan
plan_after plan (byte ∷ bytes) = plan_after (after plan byte) bytes
