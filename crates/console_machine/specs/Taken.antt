-- The byte that a port offers matters to a step only where the step reads one.
use Rattle.std.proofs.Common.{◌≡◌, ℕ, ◌&&◌, ◌%◌, nat_lt, nat_le, Bool, true, false, refl, ap, arith, if◌then◌else◌}
use Rattle.std.proofs.lemmas.Bool.Decides.{nat_tests}
use Rattle.snes_defs.specs.declared.ports.Act.TheVariants.{Quiet, Read as PortRead}
use Rattle.side_law.specs.Moves.{taken}
use Rattle.cart_map.specs.declared.places.Place.{Place}
use Rattle.cart_map.specs.declared.places.Place.TheVariants.{Wram, Rom, Ram, BBus, Cpu, Open}
use Rattle.cpu_tables.specs.declared.access.Access.{Access}
use Rattle.cpu_tables.specs.declared.access.Access.TheVariants.{Fetch, Read, Write, Inner}
use Rattle.cpu65816.specs.Instruction.{moved_on}
use Rattle.dma_hdma.specs.declared.moves.Move.{Move}
use Rattle.dma_hdma.specs.declared.moves.Move.TheVariants.{ToB, ToA, Load}
use Rattle.dma_hdma.specs.Channels.{after_byte}
use Rattle.console_bus.specs.BusState.{BusState}
use Rattle.console_bus.specs.Places.{place_at, place_byte, place_written, a_side, register_byte, register_read, on_bus}
use Rattle.console_steps.specs.ConsoleState.{ConsoleState, Due, Resets, Refreshes, Moves_byte, Accesses, read_at, act_of, due_clocks, with_interrupt_levels, after_read, effect, after_clocks, bytes_in, console_after, bytes_after}

not_below : (n : ℕ) → nat_lt n 0x40 ≡ false → nat_le 0x40 n ≡ true
not_below n e = grind (arith, nat_tests)

-- a register below 40, a port, and any other
picked : (below from to : Bool) (k x z got : ℕ) → (below ≡ false → from ≡ true)
    → (if below then x else if to then taken (if from && to then PortRead k else Quiet) got else z) ≡ (if below then x else if to then got else z)
picked true from to k x z got h = refl
picked false from true k x z got h = rw (h refl) refl
picked false from false k x z got h = refl

port_byte : (r : BusState) (n got : ℕ) → register_byte r n (taken (read_at (BBus n)) got) ≡ register_byte r n got
unfolding register_byte
port_byte r n got = picked (nat_lt n 0x40) (nat_le 0x40 n) (nat_lt n 0x80) (n % 4) _ _ got (not_below n)

read_byte : (r : BusState) (p : Place) (got : ℕ) → place_byte r p (taken (read_at p) got) ≡ place_byte r p got
read_byte r (Wram i) got = refl
read_byte r (Ram i) got = refl
read_byte r (Rom i) got = refl
read_byte r (BBus n) got = port_byte r n got
read_byte r (Cpu n) got = refl
read_byte r Open got = refl

-- an effect of an access that reads, by the byte
abbrev by_byte : ConsoleState → Place → ℕ → ConsoleState
by_byte w p byte = record w { processor = with_interrupt_levels (moved_on w.processor byte) (after_read w.rest p byte); rest = after_read w.rest p byte }

-- an effect of a transfer to the A side, by the byte
abbrev moved_to : ConsoleState → ℕ → ℕ → ℕ → ConsoleState
moved_to w port to byte =
    let read = on_bus (register_read w.rest port) byte in
    let put = place_written read (a_side (place_at read.board to)) byte in
    let all = record put { channels = after_byte put.channels byte } in
    record w { processor = with_interrupt_levels w.processor all; rest = all }

move_effect : (w : ConsoleState) (m : Move) (got : ℕ) → effect w (Moves_byte m) (taken (act_of w.rest (Moves_byte m)) got) ≡ effect w (Moves_byte m) got
move_effect w (ToB from port) got = refl
move_effect w (ToA port to) got = ap (moved_to w port to) (port_byte w.rest port got)
move_effect w (Load from) got = refl

access_effect : (w : ConsoleState) (a : Access) (got : ℕ) → effect w (Accesses a) (taken (act_of w.rest (Accesses a)) got) ≡ effect w (Accesses a) got
access_effect w (Fetch addr) got = ap (by_byte w (place_at w.rest.board addr)) (read_byte w.rest (place_at w.rest.board addr) got)
access_effect w (Read addr) got = ap (by_byte w (place_at w.rest.board addr)) (read_byte w.rest (place_at w.rest.board addr) got)
access_effect w (Write addr v) got = refl
access_effect w Inner got = refl

effect_taken : (w : ConsoleState) (d : Due) (got : ℕ) → effect w d (taken (act_of w.rest d) got) ≡ effect w d got
effect_taken w Resets got = refl
effect_taken w Refreshes got = refl
effect_taken w (Moves_byte m) got = move_effect w m got
effect_taken w (Accesses a) got = access_effect w a got

pub console_step_taken : (w : ConsoleState) (d : Due) (got : ℕ) → console_after w d (taken (act_of w.rest d) got) ≡ console_after w d got
console_step_taken w d got = ap (λ e. after_clocks e (due_clocks d w.rest.io.fast)) (effect_taken w d got)

pub bytes_taken : (w : ConsoleState) (d : Due) (got : ℕ) → bytes_after w d (taken (act_of w.rest d) got) ≡ bytes_after w d got
bytes_taken w d got = ap (λ e. bytes_in e (due_clocks d w.rest.io.fast)) (effect_taken w d got)
