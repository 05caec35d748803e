-- The console as a machine: its state, the step that is due, what that step does, and what it emits.
-- The order in which steps are due, and the clocks of refresh, transfers and reset, are this project's own.
use Rattle.std.specs.Prelude.{ℕ, zero, suc, ◌+◌, ◌%◌, Bool, false, Option, Some, None, List, [], ◌∷◌, ◌++◌}
use Rattle.std.specs.Prelude.{if◌then◌else◌}
use Rattle.snes_defs.specs.declared.ports.Act.{Act}
use Rattle.snes_defs.specs.declared.ports.Act.TheVariants.{Quiet, Read as PortRead, Write as PortWrite, Clear}
use Rattle.snes_defs.specs.declared.ports.Side.TheVariants.{Console}
use Rattle.snes_defs.specs.declared.region.Region.{Region}
use Rattle.snes_defs.specs.declared.cart.Cart.{Cart}
use Rattle.snes_defs.specs.Script.{Script}
use Rattle.clock_ratio.specs.Stamp.{stamp_of}
use Rattle.cart_map.specs.declared.places.Place.{Place}
use Rattle.cart_map.specs.declared.places.Place.TheVariants.{Wram, Rom, Ram, BBus, Cpu, Open}
use Rattle.cart_map.specs.Clocks.{clocks_of}
use Rattle.cpu_tables.specs.declared.access.Access.{Access}
use Rattle.cpu_tables.specs.declared.access.Access.TheVariants.{Fetch, Read, Write, Inner}
use Rattle.cpu65816.specs.Instruction.{CpuState, at_reset, next_of, moved_on, signalled}
use Rattle.io_math.specs.Registers.{nmi_level, irq_level}
use Rattle.dma_hdma.specs.declared.moves.Move.{Move}
use Rattle.dma_hdma.specs.declared.moves.Move.TheVariants.{ToB, ToA, Load}
use Rattle.dma_hdma.specs.Channels.{due_of as transfer_of, after_byte}
use Rattle.beam.specs.declared.events.Event.{Event}
use Rattle.beam.specs.Events.{events_of, happens_next, beam_next}
use Rattle.side_law.specs.Moves.{Moves}
use Rattle.console_bus.specs.BusState.{BusState, bus_start}
use Rattle.console_bus.specs.Places.{place_at, a_side, taken_from, is_port, register_byte, register_read}
use Rattle.console_bus.specs.Places.{register_written, place_byte, place_read, place_written, on_bus}
use Rattle.console_bus.specs.Happenings.{happened, emitted_at, was_reset}

-- the processor with its instruction in hand, all else, and the master clocks since the start
pub record ConsoleState : Type 0 where
  pub processor : CpuState
  pub rest : BusState
  pub clock : ℕ

-- what a step is: the first of these that is due
pub data Due : Type 0 where
  Resets : Due
  Refreshes : Due
  -- a byte of HDMA or DMA
  Moves_byte : Move → Due
  -- the processor's next access or internal cycle
  Accesses : Access → Due

abbrev pub due_after : Option Move → Access → Due
due_after (Some move) access = Moves_byte move
due_after None access = Accesses access

abbrev pub due_of : ConsoleState → Due
due_of w =
    if w.rest.reset then Resets
    else (if w.rest.refresh then Refreshes
    else due_after (transfer_of w.rest.channels) (next_of w.processor))

-- ---- how long a step lasts, in master clocks

abbrev pub access_clocks : Access → Bool → ℕ
access_clocks (Fetch addr) fast = clocks_of addr fast
access_clocks (Read addr) fast = clocks_of addr fast
access_clocks (Write addr v) fast = clocks_of addr fast
access_clocks Inner fast = 6

abbrev pub due_clocks : Due → Bool → ℕ
due_clocks Resets fast = 6
due_clocks Refreshes fast = 40
due_clocks (Moves_byte move) fast = 8
due_clocks (Accesses access) fast = access_clocks access fast

-- ---- what a step does at the four ports, 2140 to 217F

abbrev pub read_at : Place → Act
read_at (Wram i) = Quiet
read_at (Rom i) = Quiet
read_at (Ram i) = Quiet
read_at (BBus register) = if is_port register then PortRead (register % 4) else Quiet
read_at (Cpu register) = Quiet
read_at Open = Quiet

abbrev pub write_at : Place → ℕ → Act
write_at (Wram i) v = Quiet
write_at (Rom i) v = Quiet
write_at (Ram i) v = Quiet
write_at (BBus register) v = if is_port register then PortWrite (register % 4) (v % 256) else Quiet
write_at (Cpu register) v = Quiet
write_at Open v = Quiet

abbrev pub move_act : BusState → Move → Act
move_act r (ToB from port) = write_at (BBus port) (taken_from r from)
move_act r (ToA port to) = read_at (BBus port)
move_act r (Load from) = Quiet

abbrev pub access_act : BusState → Access → Act
access_act r (Fetch addr) = read_at (place_at r.board addr)
access_act r (Read addr) = read_at (place_at r.board addr)
access_act r (Write addr v) = write_at (place_at r.board addr) v
access_act r Inner = Quiet

abbrev pub act_of : BusState → Due → Act
act_of r Resets = Clear 15
act_of r Refreshes = Quiet
act_of r (Moves_byte move) = move_act r move
act_of r (Accesses access) = access_act r access

-- ---- what a step does to the console, at its start

-- a byte of a transfer
abbrev pub after_move : BusState → Move → ℕ → BusState
after_move r (ToB from port) got =
    let byte = taken_from r from in
    let put = register_written (on_bus r byte) port byte in
    record put { channels = after_byte put.channels byte }
after_move r (ToA port to) got =
    let byte = register_byte r port got in
    let read = on_bus (register_read r port) byte in
    let put = place_written read (a_side (place_at read.board to)) byte in
    record put { channels = after_byte put.channels byte }
after_move r (Load from) got =
    let byte = taken_from r from in
    record (on_bus r byte) { channels = after_byte r.channels byte }

-- an access of the processor
abbrev pub after_read : BusState → Place → ℕ → BusState
after_read r place byte = on_bus (place_read r place) byte

abbrev pub after_write : BusState → Place → ℕ → BusState
after_write r place v = on_bus (place_written r place v) v

abbrev pub after_access : BusState → Access → ℕ → BusState
after_access r (Fetch addr) got = after_read r (place_at r.board addr) (place_byte r (place_at r.board addr) got)
after_access r (Read addr) got = after_read r (place_at r.board addr) (place_byte r (place_at r.board addr) got)
after_access r (Write addr v) got = after_write r (place_at r.board addr) v
after_access r Inner got = r

abbrev pub rest_after : BusState → Due → ℕ → BusState
rest_after r Resets got = was_reset r
rest_after r Refreshes got = record r { refresh = false }
rest_after r (Moves_byte move) got = after_move r move got
rest_after r (Accesses access) got = after_access r access got

abbrev pub byte_of : BusState → Access → ℕ → ℕ
byte_of r (Fetch addr) got = place_byte r (place_at r.board addr) got
byte_of r (Read addr) got = place_byte r (place_at r.board addr) got
byte_of r (Write addr v) got = 0
byte_of r Inner got = 0

abbrev pub processor_after : CpuState → BusState → Due → ℕ → CpuState
processor_after s r Resets got = at_reset
processor_after s r Refreshes got = s
processor_after s r (Moves_byte move) got = s
processor_after s r (Accesses access) got = moved_on s (byte_of r access got)

-- the processor is given the levels of its two lines
abbrev pub with_interrupt_levels : CpuState → BusState → CpuState
with_interrupt_levels s r = signalled s (nmi_level r.io) (irq_level r.io)

abbrev pub effect : ConsoleState → Due → ℕ → ConsoleState
effect w due got = record w {
  processor = with_interrupt_levels (processor_after w.processor w.rest due got) (rest_after w.rest due got);
  rest = rest_after w.rest due got;
}

-- ---- then the clocks pass, one by one, with the events of the beam

-- an event, after which the processor is given the levels again
abbrev pub after_event : ConsoleState → Event → ConsoleState
after_event w e = record w {
  processor = with_interrupt_levels w.processor (happened w.rest e);
  rest = happened w.rest e;
}

abbrev pub after_events : ConsoleState → List Event → ConsoleState
after_events w [] = w
after_events w (e ∷ rest) = after_events (after_event w e) rest

abbrev pub bytes_of_events : ConsoleState → List Event → List ℕ
bytes_of_events w [] = []
bytes_of_events w (e ∷ rest) = emitted_at w.rest e ++ bytes_of_events (after_event w e) rest

-- the beam one master clock on, before what happens there
abbrev pub overscan_of : ConsoleState → Bool
overscan_of w = w.rest.picture.registers.settings.overscan

abbrev pub moved : ConsoleState → ConsoleState
moved w = record w { rest = record w.rest { beam = beam_next (overscan_of w) w.rest.beam }; clock = w.clock + 1 }

abbrev pub events_next : ConsoleState → List Event
events_next w = events_of (happens_next (overscan_of w) w.rest.beam)

unfoldable pub after_clocks : ConsoleState → ℕ → ConsoleState
after_clocks w zero = w
after_clocks w (suc clocks) = after_clocks (after_events (moved w) (events_next w)) clocks

unfoldable pub bytes_in : ConsoleState → ℕ → List ℕ
bytes_in w zero = []
bytes_in w (suc clocks) = bytes_of_events (moved w) (events_next w)
    ++ bytes_in (after_events (moved w) (events_next w)) clocks

-- ---- a whole step

abbrev pub console_after : ConsoleState → Due → ℕ → ConsoleState
console_after w due got = after_clocks (effect w due got) (due_clocks due w.rest.io.fast)

abbrev pub bytes_after : ConsoleState → Due → ℕ → List ℕ
bytes_after w due got = bytes_in (effect w due got) (due_clocks due w.rest.io.fast)

abbrev pub region_of : ConsoleState → Region
region_of w = w.rest.beam.region

abbrev pub console_moves : Moves ConsoleState
console_moves = record {
  stamp = λ w. stamp_of (region_of w) Console w.clock;
  act = λ w. act_of w.rest (due_of w);
  next = λ w got. console_after w (due_of w) got;
  bytes = λ w got. bytes_after w (due_of w) got;
}

-- the console at its start
abbrev pub console_start : Cart → Script → Region → ConsoleState
console_start cart script region = record { processor = at_reset; rest = bus_start cart script region; clock = 0 }
