-- The outcome of an instruction run to its end over a memory, and which registers a processor can have.
use Rattle.std.specs.Prelude.{◌≡◌, ℕ, ◌<◌, ◌/◌, true, Option, Some, None, ◌==◌, if◌then◌else◌}
use Rattle.cpu_tables.specs.declared.regs.Regs.{Regs}
use Rattle.cpu_modes.specs.Plan.{Plan, fetches, reads, writes, idles, waits, stops, ends}

-- what a memory has at each address
abbrev pub Memory : Type 0
Memory = ℕ → ℕ

abbrev pub stored : Memory → ℕ → ℕ → Memory
stored m at byte = λ a. if a == at then byte else m a

-- the registers and the memory at the end of an instruction
pub record Outcome : Type 0 where
  pub registers : Regs
  pub memory : Memory

-- an instruction run to its end over a memory; one that waits or stops has none
abbrev pub outcome : Plan → Memory → Option Outcome
outcome (fetches at more) m = outcome (more (m at)) m
outcome (reads at more) m = outcome (more (m at)) m
outcome (writes at byte more) m = outcome more (stored m at byte)
outcome (idles more) m = outcome more m
outcome (waits r) m = None
outcome stops m = None
outcome (ends r) m = Some (record { registers = r; memory = m })

-- registers as a processor can have them: S and PC of 16 bits, and in emulation mode the stack in page 1
pub record IsPossible (r : Regs) : Type 0 where
  pub counter : r.pc < 65536
  pub stack : r.s < 65536
  pub page : r.e ≡ true → r.s / 256 ≡ 1
