-- A plan, which is what an instruction has still to do, access by access; its next access, what is left after
-- some, and its end.
use Rattle.std.specs.Prelude.{ℕ, Bool, true, false, List, [], ◌∷◌, Option, Some, None, if◌then◌else◌}
use Rattle.cpu_tables.specs.declared.access.Access.{Access}
use Rattle.cpu_tables.specs.declared.access.Access.TheVariants.{Fetch, Read, Write, Inner}
use Rattle.cpu_tables.specs.declared.regs.Regs.{Regs}

-- What an instruction has still to do: its next access, and by the byte got there all that follows.
pub data Plan : Type 0 where
  -- a byte of the program is fetched at an address
  fetches : ℕ → (ℕ → Plan) → Plan
  -- a byte is read at an address
  reads : ℕ → (ℕ → Plan) → Plan
  -- at an address a byte is written
  writes : ℕ → ℕ → Plan → Plan
  -- an internal cycle
  idles : Plan → Plan
  -- Before each internal cycle it is asked whether an interrupt has come. If so there is none, and the instruction has ended with these registers.
  waits : Regs → Plan
  -- internal cycles for ever
  stops : Plan
  -- nothing: the instruction has ended with these registers
  ends : Regs → Plan

-- the next access, if there is one
abbrev pub access_of : Plan → Option Access
access_of (fetches at _) = Some (Fetch at)
access_of (reads at _) = Some (Read at)
access_of (writes at byte _) = Some (Write at byte)
access_of (idles _) = Some Inner
access_of (waits _) = Some Inner
access_of stops = Some Inner
access_of (ends _) = None

-- the access that a plan begins with; one that has ended has none
abbrev pub first_access : Plan → Access
first_access (fetches at _) = Fetch at
first_access (reads at _) = Read at
first_access (writes at byte _) = Write at byte
first_access (idles _) = Inner
first_access (waits _) = Inner
first_access stops = Inner
first_access (ends _) = Inner

-- the access that is made next whatever the interrupt lines are; what comes after an end, or in a wait, is for them to say
abbrev pub comes : Plan → Option Access
comes (fetches at _) = Some (Fetch at)
comes (reads at _) = Some (Read at)
comes (writes at byte _) = Some (Write at byte)
comes (idles _) = Some Inner
comes (waits _) = None
comes stops = Some Inner
comes (ends _) = None

-- whether an access is a fetch or a read
abbrev pub gets_byte : Access → Bool
gets_byte (Fetch _) = true
gets_byte (Read _) = true
gets_byte (Write _ _) = false
gets_byte Inner = false

abbrev pub is_write : Access → Bool
is_write (Fetch _) = false
is_write (Read _) = false
is_write (Write _ _) = true
is_write Inner = false

abbrev pub is_inner : Access → Bool
is_inner (Fetch _) = false
is_inner (Read _) = false
is_inner (Write _ _) = false
is_inner Inner = true

-- where an access is; an internal cycle is nowhere
abbrev pub address_of : Access → ℕ
address_of (Fetch at) = at
address_of (Read at) = at
address_of (Write at _) = at
address_of Inner = 0

-- what is left after the next access, where a fetch or a read got this byte
abbrev pub after : Plan → ℕ → Plan
after (fetches _ more) byte = more byte
after (reads _ more) byte = more byte
after (writes _ _ more) _ = more
after (idles more) _ = more
after (waits r) _ = waits r
after stops _ = stops
after (ends r) _ = ends r

-- what is left after as many accesses as there are bytes; where an access got none, its entry counts for nothing
abbrev pub plan_after : Plan → List ℕ → Plan
plan_after plan [] = plan
plan_after plan (byte ∷ bytes) = plan_after (after plan byte) bytes

-- the registers at the end, where the plan has come to it; a wait has come to its end where it is awake
abbrev pub finished : Bool → Plan → Option Regs
finished awake (fetches _ _) = None
finished awake (reads _ _) = None
finished awake (writes _ _ _) = None
finished awake (idles _) = None
finished awake (waits r) = if awake then Some r else None
finished awake stops = None
finished awake (ends r) = Some r
