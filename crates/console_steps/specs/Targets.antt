-- What an access of the processor reaches at a place of the address map, and what a read or a write of it does.
use Rattle.std.specs.Prelude.{◌≡◌, ℕ, ◌+◌, ◌%◌, ◌<◌, slice_index, if◌then◌else◌}
use Rattle.snes_defs.specs.declared.ports.Act.{Act}
use Rattle.snes_defs.specs.declared.ports.Act.TheVariants.{Quiet, Read as PortRead, Write as PortWrite}
use Rattle.cart_map.specs.declared.places.Place.{Place}
use Rattle.cart_map.specs.declared.places.Place.TheVariants.{Wram, Rom, Ram, BBus, Cpu as Own, Open}
use Rattle.cart_map.specs.Clocks.{clocks_of}
use Rattle.cart_map.specs.Place.{IsInside}
use Rattle.cpu_tables.specs.declared.access.Access.{Access}
use Rattle.cpu_tables.specs.declared.access.Access.TheVariants.{Fetch, Read, Write, Inner}
use Rattle.cpu65816.specs.declared.processor.Cpu.{Cpu}
use Rattle.cpu65816.specs.Stands.{access_of}
use Rattle.console_bus.specs.declared.cart_board.CartBoard.{CartBoard}
use Rattle.console_bus.specs.BusState.{BusState}
use Rattle.console_bus.specs.Memory.{stored}
use Rattle.console_bus.specs.Places.{place_at, is_port, register_byte, register_read, register_written}
use Rattle.console_bus.specs.Places.{chip_byte, chip_read, chip_written}
use Rattle.console_steps.specs.declared.bus_access.BusAccess.{BusAccess}
use Rattle.console_steps.specs.declared.bus_access.Target.{Target}
use Rattle.console_steps.specs.declared.bus_access.Target.TheVariants.{Memory, Port, Register, Chip, Nothing}

abbrev pub target_at : CartBoard → Place → Target
target_at board (Wram i) = Memory i
target_at board (Ram i) = Memory (131072 + i)
target_at board (Rom i) = Memory (131072 + board.ram + i)
target_at board (BBus register) = if is_port register then Port (register % 4) else Register register
target_at board (Own register) = Chip register
target_at board Open = Nothing

-- the byte is one of the memory, the port one of the four
abbrev pub IsWithin : CartBoard → Target → Type 0
IsWithin board (Memory at) = at < 131072 + board.ram + board.rom
IsWithin board (Port port) = port < 4
IsWithin board (Register register) = Unit {0}
IsWithin board (Chip register) = Unit {0}
IsWithin board Nothing = Unit {0}

-- what the processor's access at an address reaches, and its clocks
pub record Reaches (r : BusState) (addr : ℕ) (access : BusAccess) : Type 0 where
  pub target : access.target ≡ target_at r.board (place_at r.board addr)
  pub lies : IsInside r.board.rom r.board.ram (place_at r.board addr)
  pub within : IsWithin r.board access.target
  pub clocks : access.clocks ≡ clocks_of addr r.io.fast

-- an access that gets a byte, at an address
abbrev pub gets_at : Access → ℕ → Type 0
gets_at (Fetch addr) at = addr ≡ at
gets_at (Read addr) at = addr ≡ at
gets_at (Write addr byte) at = ⊥
gets_at Inner at = ⊥

-- the processor's next access is a fetch or a read that reaches this
pub record Reads (cpu : Cpu) (r : BusState) (access : BusAccess) : Type 0 where
  pub addr : ℕ
  pub is : gets_at (access_of cpu) addr
  pub reaches : Reaches r addr access

-- .. or a write that does
pub record Writes (cpu : Cpu) (r : BusState) (access : BusAccess) (v : ℕ) : Type 0 where
  pub addr : ℕ
  pub is : access_of cpu ≡ Write addr v
  pub reaches : Reaches r addr access

-- ---- what an access does

abbrev pub target_byte : BusState → Target → ℕ → ℕ
target_byte r (Memory at) got = slice_index r.memory at
target_byte r (Port port) got = got
target_byte r (Register register) got = register_byte r register got
target_byte r (Chip register) got = chip_byte r register
target_byte r Nothing got = r.last

abbrev pub target_read : BusState → Target → BusState
target_read r (Memory at) = r
target_read r (Port port) = r
target_read r (Register register) = register_read r register
target_read r (Chip register) = chip_read r register
target_read r Nothing = r

abbrev pub target_written : BusState → Target → ℕ → BusState
target_written r (Memory at) v = stored r at v
target_written r (Port port) v = r
target_written r (Register register) v = register_written r register v
target_written r (Chip register) v = chip_written r register v
target_written r Nothing v = r

-- .. and what it does at the ports
abbrev pub read_act : Target → Act
read_act (Memory at) = Quiet
read_act (Port port) = PortRead port
read_act (Register register) = Quiet
read_act (Chip register) = Quiet
read_act Nothing = Quiet

abbrev pub write_act : Target → ℕ → Act
write_act (Memory at) v = Quiet
write_act (Port port) v = PortWrite port (v % 256)
write_act (Register register) v = Quiet
write_act (Chip register) v = Quiet
write_act Nothing v = Quiet
