-- Accesses of the processor that follow one another with nothing else on the bus: when it may be taken that no line and
-- no transfer comes between, and which of them change nothing but the processor and the byte last on the data bus.
use Rattle.std.specs.Prelude.{◌≡◌, ℕ, false, None, Some, ◌⊎◌}
use Rattle.cart_map.specs.declared.places.Place.TheVariants.{Cpu as Own}
use Rattle.cpu_tables.specs.declared.access.Access.{Access}
use Rattle.cpu_tables.specs.declared.access.Access.TheVariants.{Fetch, Read, Write, Inner}
use Rattle.cpu65816.specs.declared.processor.Cpu.{Cpu}
use Rattle.io_math.specs.Registers.{nmi_level, irq_level}
use Rattle.dma_hdma.specs.Channels.{due_of as transfer_of}
use Rattle.console_bus.specs.BusState.{BusState}
use Rattle.console_bus.specs.Places.{place_at, IsStill}
use Rattle.console_bus.specs.Memory.{index_of}

-- the processor was given the levels that its lines have now
pub record IsWired (cpu : Cpu) (bus : BusState) : Type 0 where
  pub nmi : cpu.nmi_level ≡ nmi_level bus.io
  pub irq : cpu.irq_level ≡ irq_level bus.io

-- neither a reset, nor a refresh, nor a byte of a transfer is due
pub record IsCalm (r : BusState) : Type 0 where
  pub reset : r.reset ≡ false
  pub refresh : r.refresh ≡ false
  pub transfer : transfer_of r.channels ≡ None

-- the byte at an address is one of the memory
abbrev pub IsOfMemory : BusState → ℕ → Type 0
IsOfMemory r addr = (at : ℕ) × (index_of r.board (place_at r.board addr) ≡ Some at)

-- the address is that of a register of the processor's chip, a read of which changes nothing and gives the same byte
-- wherever the beam stands
pub record IsOfStill (r : BusState) (addr : ℕ) : Type 0 where
  pub register : ℕ
  pub place : place_at r.board addr ≡ Own register
  pub still : IsStill r register

-- an access that only looks: it reads a byte of the memory or such a register, or is an internal cycle
abbrev pub IsLook : BusState → Access → Type 0
IsLook r (Fetch addr) = IsOfMemory r addr
IsLook r (Read addr) = IsOfMemory r addr ⊎ IsOfStill r addr
IsLook r (Write addr v) = ⊥
IsLook r Inner = Unit {0}
