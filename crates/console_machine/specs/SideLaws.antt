-- The console's steps keep the laws of a machine.
use Rattle.std.proofs.Common.{◌≡◌, ℕ, ◌+◌, ◌*◌, ◌/◌, ◌%◌, ◌<◌, ◌≤◌, ◌&&◌, nat_lt, Bool, true, false, length, sym, subst, ◌∙◌, arith, if◌then◌else◌}
use Rattle.std.proofs.lemmas.Bool.Decides.{nat_tests}
use Rattle.snes_defs.specs.declared.region.Region.{Region}
use Rattle.snes_defs.specs.declared.region.Region.TheVariants.{Ntsc, Pal}
use Rattle.snes_defs.specs.declared.ports.Side.TheVariants.{Console}
use Rattle.clock_ratio.specs.Stamp.{rate_of, stamp_of, least_of, most_of}
use Rattle.cart_map.specs.declared.places.Place.{Place}
use Rattle.cart_map.specs.declared.places.Place.TheVariants.{Wram, Rom, Ram, BBus, Cpu, Open}
use Rattle.cart_map.specs.Clocks.{clocks_of, system_clocks, is_fast_bank}
use Rattle.cpu_tables.specs.declared.access.Access.{Access}
use Rattle.cpu_tables.specs.declared.access.Access.TheVariants.{Fetch, Read, Write, Inner}
use Rattle.dma_hdma.specs.declared.moves.Move.{Move}
use Rattle.dma_hdma.specs.declared.moves.Move.TheVariants.{ToB, ToA, Load}
use Rattle.side_law.specs.Moves.{IsLawful, IsAtPorts}
use Rattle.snes_defs.specs.declared.ports.Act.{Act}
use Rattle.snes_defs.specs.declared.ports.Act.TheVariants.{Quiet, Read as PortRead, Write as PortWrite}
use Rattle.console_bus.specs.BusState.{BusState}
use Rattle.console_bus.specs.Places.{is_port, place_at, taken_from}
use Rattle.console_steps.specs.ConsoleState.{ConsoleState, Due, Resets, Refreshes, Moves_byte, Accesses, due_of, access_clocks, due_clocks, read_at, write_at, move_act, access_act, act_of, effect, console_after, bytes_after, region_of, console_moves}
use Rattle.console_steps.specs.Draws.{room_for}
use Rattle.console_machine.specs.Side.{IsConsoleOf}
use Rattle.console_machine.specs.Keeping.{effect_beam, clocks_keep, bytes_fit}

-- ---- what a step does at the ports is in range

either_act : (b : Bool) (x y : Act) → IsAtPorts x → IsAtPorts y → IsAtPorts (if b then x else y)
either_act true x y h k = h
either_act false x y h k = k

read_ports : (p : Place) → IsAtPorts (read_at p)
read_ports (Wram i) = tt
read_ports (Rom i) = tt
read_ports (Ram i) = tt
read_ports (BBus n) = either_act (is_port n) (PortRead (n % 4)) Quiet (omega arith) tt
read_ports (Cpu n) = tt
read_ports Open = tt

write_ports : (p : Place) (v : ℕ) → IsAtPorts (write_at p v)
write_ports (Wram i) v = tt
write_ports (Rom i) v = tt
write_ports (Ram i) v = tt
write_ports (BBus n) v = either_act (is_port n) (PortWrite (n % 4) (v % 256)) Quiet (omega arith, omega arith) tt
write_ports (Cpu n) v = tt
write_ports Open v = tt

move_ports : (r : BusState) (m : Move) → IsAtPorts (move_act r m)
move_ports r (ToB from port) = write_ports (BBus port) (taken_from r from)
move_ports r (ToA port to) = read_ports (BBus port)
move_ports r (Load from) = tt

access_ports : (r : BusState) (a : Access) → IsAtPorts (access_act r a)
access_ports r (Fetch addr) = read_ports (place_at r.board addr)
access_ports r (Read addr) = read_ports (place_at r.board addr)
access_ports r (Write addr v) = write_ports (place_at r.board addr) v
access_ports r Inner = tt

pub act_ports : (r : BusState) (d : Due) → IsAtPorts (act_of r d)
act_ports r Resets = (omega arith, omega arith)
act_ports r Refreshes = tt
act_ports r (Moves_byte m) = move_ports r m
act_ports r (Accesses a) = access_ports r a

-- ---- a step lasts 6 to 40 clocks

pub record IsStep (clocks : ℕ) : Type 0 where
  pub least : 6 ≤ clocks
  pub most : clocks ≤ 40

system_step : (offset : ℕ) → IsStep (system_clocks offset)
system_step offset = record { least = grind (arith, nat_tests); most = grind (arith, nat_tests) }

either_step : (b : Bool) (x y : ℕ) → IsStep x → IsStep y → IsStep (if b then x else y)
either_step true x y h k = h
either_step false x y h k = k

step_of : (n : ℕ) → 6 ≤ n → n ≤ 40 → IsStep n
step_of n a b = record { least = a; most = b }

pub clocks_step : (addr : ℕ) (fast : Bool) → IsStep (clocks_of addr fast)
clocks_step addr fast =
    either_step (nat_lt (addr / 65536 % 128) 64 && nat_lt (addr % 65536) 0x8000) (system_clocks (addr % 65536)) _ (system_step (addr % 65536))
    (either_step (is_fast_bank (addr / 65536) && fast) 6 8 (step_of 6 (omega arith) (omega arith)) (step_of 8 (omega arith) (omega arith)))

access_step : (a : Access) (fast : Bool) → IsStep (access_clocks a fast)
access_step (Fetch addr) fast = clocks_step addr fast
access_step (Read addr) fast = clocks_step addr fast
access_step (Write addr v) fast = clocks_step addr fast
access_step Inner fast = step_of 6 (omega arith) (omega arith)

pub due_step : (d : Due) (fast : Bool) → IsStep (due_clocks d fast)
due_step Resets fast = step_of 6 (omega arith) (omega arith)
due_step Refreshes fast = step_of 40 (omega arith) (omega arith)
due_step (Moves_byte m) fast = step_of 8 (omega arith) (omega arith)
due_step (Accesses a) fast = access_step a fast

-- ---- so a stamp rises by what the region says

rises_by : (region : Region) (c n : ℕ) → 6 ≤ n → rate_of region Console * c + least_of region ≤ rate_of region Console * (c + n)
rises_by Ntsc c n h = omega arith
rises_by Pal c n h = omega arith

rises_at_most_by : (region : Region) (c n : ℕ) → n ≤ 40 → rate_of region Console * (c + n) ≤ rate_of region Console * c + most_of region
rises_at_most_by Ntsc c n h = omega arith
rises_at_most_by Pal c n h = omega arith

rises_to : (region a b : Region) (c d n : ℕ) → a ≡ region → b ≡ region → d ≡ c + n → 6 ≤ n → stamp_of a Console c + least_of region ≤ stamp_of b Console d
rises_to region a b c d n ea eb ed h = rw (ea, eb, ed) (rises_by region c n h)

rises_at_most_to : (region a b : Region) (c d n : ℕ) → a ≡ region → b ≡ region → d ≡ c + n → n ≤ 40 → stamp_of b Console d ≤ stamp_of a Console c + most_of region
rises_at_most_to region a b c d n ea eb ed h = rw (ea, eb, ed) (rises_at_most_by region c n h)

pub room_within : (h k : ℕ) → room_for h k ≤ 1024
unfolding room_for
room_within h k = grind (arith, nat_tests)

-- ---- a whole step

pub record IsAfter (w x : ConsoleState) (clocks : ℕ) : Type 0 where
  pub region : region_of x ≡ region_of w
  pub line : x.rest.beam.h < 1364
  pub clock : x.clock ≡ w.clock + clocks

pub step_keeps : (w : ConsoleState) (d : Due) (got : ℕ) → w.rest.beam.h < 1364 → IsAfter w (console_after w d got) (due_clocks d w.rest.io.fast)
step_keeps w d got line =
    let e = effect_beam w.rest d got in
    let P : ℕ → Type 0 = λ h. h < 1364 in
    let there : (effect w d got).rest.beam.h < 1364 = subst P (sym e.clock) line in
    let k = clocks_keep (effect w d got) (due_clocks d w.rest.io.fast) there in
    record { region = k.region ∙ e.region; line = k.line; clock = k.clock }

pub step_emits : (w : ConsoleState) (d : Due) (got : ℕ) → w.rest.beam.h < 1364 → length (bytes_after w d got) ≤ 1024
step_emits w d got line =
    let e = effect_beam w.rest d got in
    let P : ℕ → Type 0 = λ h. h < 1364 in
    let there : (effect w d got).rest.beam.h < 1364 = subst P (sym e.clock) line in
    let s = due_step d w.rest.io.fast in
    let few = s.most in
    let fit = bytes_fit (effect w d got) (due_clocks d w.rest.io.fast) there few in
    let room = room_within (effect w d got).rest.beam.h (due_clocks d w.rest.io.fast) in
    omega arith

step_rises : (region : Region) (w : ConsoleState) (got : ℕ) → IsConsoleOf region w
    → stamp_of (region_of w) Console w.clock + least_of region ≤ stamp_of (region_of (console_after w (due_of w) got)) Console (console_after w (due_of w) got).clock
step_rises region w got h =
    let k = step_keeps w (due_of w) got h.line in
    let s = due_step (due_of w) w.rest.io.fast in
    rises_to region (region_of w) (region_of (console_after w (due_of w) got)) w.clock (console_after w (due_of w) got).clock (due_clocks (due_of w) w.rest.io.fast)
    h.region (k.region ∙ h.region) k.clock s.least

step_rises_at_most : (region : Region) (w : ConsoleState) (got : ℕ) → IsConsoleOf region w
    → stamp_of (region_of (console_after w (due_of w) got)) Console (console_after w (due_of w) got).clock ≤ stamp_of (region_of w) Console w.clock + most_of region
step_rises_at_most region w got h =
    let k = step_keeps w (due_of w) got h.line in
    let s = due_step (due_of w) w.rest.io.fast in
    rises_at_most_to region (region_of w) (region_of (console_after w (due_of w) got)) w.clock (console_after w (due_of w) got).clock (due_clocks (due_of w) w.rest.io.fast)
    h.region (k.region ∙ h.region) k.clock s.most

pub console_is_lawful : (region : Region) → IsLawful region (IsConsoleOf region) 1024 console_moves
console_is_lawful region = record {
  at_ports = λ w h. act_ports w.rest (due_of w);
  stays_valid = λ w got h b. (let k = step_keeps w (due_of w) got h.line in record { region = k.region ∙ h.region; line = k.line });
  rises = λ w got h b. step_rises region w got h;
  rises_at_most = λ w got h b. step_rises_at_most region w got h;
  emits_at_most = λ w got h b. step_emits w (due_of w) got h.line;
}
