-- A register of the B bus that is no port, read or written at an address where it lies.
use Rattle.std.proofs.Common.{◌≡◌, ℕ, false, [], refl, sym, subst}
use Rattle.snes_defs.specs.declared.ports.Act.{Act}
use Rattle.snes_defs.specs.declared.ports.Act.TheVariants.{Quiet}
use Rattle.cart_map.specs.declared.places.Place.{Place}
use Rattle.cart_map.specs.declared.places.Place.TheVariants.{BBus}
use Rattle.cart_map.specs.Clocks.{clocks_of}
use Rattle.cpu_tables.specs.declared.access.Access.TheVariants.{Read, Write}
use Rattle.cpu65816.specs.declared.processor.Cpu.{Cpu}
use Rattle.cpu65816.specs.Instruction.{CpuState, moved_on}
use Rattle.cpu65816.specs.Stands.{Stands}
use Rattle.console_bus.specs.BusState.{BusState}
use Rattle.console_bus.specs.Places.{place_at, place_byte, is_port, register_byte, register_read, register_written, on_bus}
use Rattle.console_steps.specs.ConsoleState.{access_act, read_at, write_at, after_read, after_write, with_interrupt_levels}
use Rattle.console_steps.specs.AtOnce.{gone_on, passed_in, IsMadeAtOnce}

read_quiet : (n : ℕ) → is_port n ≡ false → read_at (BBus n) ≡ Quiet
read_quiet n h = rw h refl

write_quiet : (n v : ℕ) → is_port n ≡ false → write_at (BBus n) v ≡ Quiet
write_quiet n v h = rw h refl

pub register_read_made : (cpu cpu' : Cpu) (bus bus' : BusState) (addr n : ℕ) → place_at bus.board addr ≡ BBus n → clocks_of addr bus.io.fast ≡ 6 → is_port n ≡ false
    → passed_in (on_bus (register_read bus n) (register_byte bus n 0)) 6 ≡ []
    → bus' ≡ gone_on (on_bus (register_read bus n) (register_byte bus n 0)) 6
    → ((s : CpuState) → Stands cpu s → Stands cpu' (with_interrupt_levels (moved_on s (register_byte bus n 0)) (on_bus (register_read bus n) (register_byte bus n 0))))
    → IsMadeAtOnce cpu cpu' bus bus' (Read addr) 6
register_read_made cpu cpu' bus bus' addr n place lasts port nothing rest processor =
    let A : Place → Type 0 = λ p. read_at p ≡ Quiet in
    let B : Place → Type 0 = λ p. passed_in (after_read bus p (place_byte bus p 0)) 6 ≡ [] in
    let D : Place → Type 0 = λ p. bus' ≡ gone_on (after_read bus p (place_byte bus p 0)) 6 in
    let E : Place → Type 0 = λ p. (s : CpuState) → Stands cpu s → Stands cpu' (with_interrupt_levels (moved_on s (place_byte bus p 0)) (after_read bus p (place_byte bus p 0))) in
    record {
      quiet = subst A (sym place) (read_quiet n port);
      lasts = sym lasts;
      nothing = subst B (sym place) nothing;
      rest = subst D (sym place) rest;
      processor = subst E (sym place) processor;
    }

pub register_write_made : (cpu cpu' : Cpu) (bus bus' : BusState) (addr n v : ℕ) → place_at bus.board addr ≡ BBus n → clocks_of addr bus.io.fast ≡ 6 → is_port n ≡ false
    → passed_in (on_bus (register_written bus n v) v) 6 ≡ []
    → bus' ≡ gone_on (on_bus (register_written bus n v) v) 6
    → ((s : CpuState) → Stands cpu s → Stands cpu' (with_interrupt_levels (moved_on s 0) (on_bus (register_written bus n v) v)))
    → IsMadeAtOnce cpu cpu' bus bus' (Write addr v) 6
register_write_made cpu cpu' bus bus' addr n v place lasts port nothing rest processor =
    let A : Place → Type 0 = λ p. write_at p v ≡ Quiet in
    let B : Place → Type 0 = λ p. passed_in (after_write bus p v) 6 ≡ [] in
    let D : Place → Type 0 = λ p. bus' ≡ gone_on (after_write bus p v) 6 in
    let E : Place → Type 0 = λ p. (s : CpuState) → Stands cpu s → Stands cpu' (with_interrupt_levels (moved_on s 0) (after_write bus p v)) in
    record {
      quiet = subst A (sym place) (write_quiet n v port);
      lasts = sym lasts;
      nothing = subst B (sym place) nothing;
      rest = subst D (sym place) rest;
      processor = subst E (sym place) processor;
    }

-- ---- what a port's access is at the ports, told of the address where it lies

pub port_read_act : (r : BusState) (addr n : ℕ) (act : Act) → place_at r.board addr ≡ BBus n → act ≡ read_at (BBus n) → act ≡ access_act r (Read addr)
port_read_act r addr n act place is =
    let P : Place → Type 0 = λ p. act ≡ read_at p in
    subst P (sym place) is

pub port_write_act : (r : BusState) (addr n v : ℕ) (act : Act) → place_at r.board addr ≡ BBus n → act ≡ write_at (BBus n) v → act ≡ access_act r (Write addr v)
port_write_act r addr n v act place is =
    let P : Place → Type 0 = λ p. act ≡ write_at p v in
    subst P (sym place) is
