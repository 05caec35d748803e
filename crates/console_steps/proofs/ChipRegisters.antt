-- A register of the processor's chip, 4200 to 421F: the place of its address, and a read or a write of it.
use Rattle.std.proofs.Common.{◌≡◌, ℕ, ◌/◌, ◌%◌, ◌<◌, Bool, true, false, nat_lt, if◌then◌else◌, [], refl, sym, subst, ap, ◌∙◌, arith}
use Rattle.std.proofs.lemmas.Bool.Decides.{nat_tests}
use Rattle.snes_defs.specs.declared.ports.Act.TheVariants.{Quiet}
use Rattle.cart_map.specs.declared.places.Place.{Place}
use Rattle.cart_map.specs.declared.places.Place.TheVariants.{Cpu as Own}
use Rattle.cart_map.specs.Place.{lies, is_system_bank, is_cpu_register}
use Rattle.cart_map.specs.Clocks.{clocks_of}
use Rattle.cpu_tables.specs.declared.access.Access.TheVariants.{Read, Write}
use Rattle.cpu65816.specs.declared.processor.Cpu.{Cpu}
use Rattle.cpu65816.specs.Instruction.{CpuState, moved_on}
use Rattle.cpu65816.specs.Stands.{Stands}
use Rattle.beam.specs.Events.{BeamValue}
use Rattle.dma_hdma.specs.Channels.{due_of as transfer_of}
use Rattle.console_bus.specs.declared.cart_board.CartBoard.{CartBoard}
use Rattle.console_bus.specs.BusState.{BusState}
use Rattle.console_bus.specs.Places.{place_at, place_byte, is_channel, chip_byte, chip_read, chip_written, on_bus}
use Rattle.console_steps.specs.ConsoleState.{read_at, write_at, after_read, after_write, with_interrupt_levels}
use Rattle.console_steps.specs.Plain.{IsCalm}
use Rattle.console_steps.specs.AtOnce.{gone_on, passed_in, IsMadeAtOnce}

-- ---- where it lies

system : (bank : ℕ) → bank < 256 → bank % 128 < 64 → (lies 0x7e 0x7f bank ≡ false) × (is_system_bank bank ≡ true)
system bank b h = (grind (arith, nat_tests), grind (arith, nat_tests))

line_4200 : (o : ℕ) → o / 32 ≡ 528 → (lies 0 0x5fff o ≡ true) × (lies 0 0x1fff o ≡ false) × (lies 0x2100 0x21ff o ≡ false) × (is_cpu_register o ≡ true)
line_4200 o h = (grind (arith, nat_tests), grind (arith, nat_tests), grind (arith, nat_tests), grind (arith, nat_tests))

pub chip_place : (board : CartBoard) (addr : ℕ) → addr / 65536 % 128 < 64 → addr / 32 % 2048 ≡ 528 → place_at board addr ≡ Own (addr % 65536)
chip_place board addr bank line =
    let s = system (addr / 65536 % 256) (omega arith) (omega arith) in
    let o = line_4200 (addr % 65536) (omega arith) in
    rw (s.0, s.1, o.0, o.1, o.2, o.3) refl

pub chip_clocks : (addr : ℕ) (fast : Bool) → addr / 65536 % 128 < 64 → addr / 32 % 2048 ≡ 528 → clocks_of addr fast ≡ 6
chip_clocks addr fast bank line =
    let a : nat_lt (addr / 65536 % 128) 64 ≡ true = grind (arith, nat_tests) in
    let o : addr % 65536 / 32 ≡ 528 = omega arith in
    let b : nat_lt (addr % 65536) 0x8000 ≡ true = grind (arith, nat_tests) in
    let d : nat_lt (addr % 65536) 0x2000 ≡ false = grind (arith, nat_tests) in
    let e : nat_lt (addr % 65536) 0x4000 ≡ false = grind (arith, nat_tests) in
    let f : nat_lt (addr % 65536) 0x4200 ≡ false = grind (arith, nat_tests) in
    let g : nat_lt (addr % 65536) 0x6000 ≡ true = grind (arith, nat_tests) in
    rw (a, b, d, e, f, g) refl

-- ---- a read of it leaves the beam alone

if_beam : (b : Bool) (x y : BusState) (beam : BeamValue) → x.beam ≡ beam → y.beam ≡ beam → (if b then x else y).beam ≡ beam
if_beam true x y beam h k = h
if_beam false x y beam h k = k

pub read_beam : (r : BusState) (n : ℕ) → (chip_read r n).beam ≡ r.beam
unfolding chip_read
read_beam r n = if_beam (is_channel n) _ _ r.beam refl refl

-- what is due then is what was due
record SameDues (r q : BusState) : Type 0 where
  channels : q.channels ≡ r.channels
  refresh : q.refresh ≡ r.refresh
  reset : q.reset ≡ r.reset

if_dues : (b : Bool) (x y r : BusState) → SameDues r x → SameDues r y → SameDues r (if b then x else y)
if_dues true x y r h k = h
if_dues false x y r h k = k

read_dues : (r : BusState) (n : ℕ) → SameDues r (chip_read r n)
unfolding chip_read
read_dues r n =
    if_dues (is_channel n) _ _ r (record { channels = refl; refresh = refl; reset = refl })
    (record { channels = refl; refresh = refl; reset = refl })

pub calm_read : (bus bus' : BusState) (n : ℕ) → bus' ≡ chip_read bus n → IsCalm bus → IsCalm bus'
calm_read bus bus' n is calm =
    let same = read_dues bus n in
    let P : BusState → Type 0 = λ r. IsCalm r in
    subst P (sym is) (record {
      reset = same.reset ∙ calm.reset;
      refresh = same.refresh ∙ calm.refresh;
      transfer = ap transfer_of same.channels ∙ calm.transfer;
    })

-- ---- an access of it, told of the address where it lies

pub chip_read_made : (cpu cpu' : Cpu) (bus bus' : BusState) (addr n : ℕ) → place_at bus.board addr ≡ Own n → clocks_of addr bus.io.fast ≡ 6
    → passed_in (on_bus (chip_read bus n) (chip_byte bus n)) 6 ≡ []
    → bus' ≡ gone_on (on_bus (chip_read bus n) (chip_byte bus n)) 6
    → ((s : CpuState) → Stands cpu s → Stands cpu' (with_interrupt_levels (moved_on s (chip_byte bus n)) (on_bus (chip_read bus n) (chip_byte bus n))))
    → IsMadeAtOnce cpu cpu' bus bus' (Read addr) 6
chip_read_made cpu cpu' bus bus' addr n place lasts nothing rest processor =
    let A : Place → Type 0 = λ p. read_at p ≡ Quiet in
    let B : Place → Type 0 = λ p. passed_in (after_read bus p (place_byte bus p 0)) 6 ≡ [] in
    let D : Place → Type 0 = λ p. bus' ≡ gone_on (after_read bus p (place_byte bus p 0)) 6 in
    let E : Place → Type 0 = λ p. (s : CpuState) → Stands cpu s → Stands cpu' (with_interrupt_levels (moved_on s (place_byte bus p 0)) (after_read bus p (place_byte bus p 0))) in
    record {
      quiet = subst A (sym place) refl;
      lasts = sym lasts;
      nothing = subst B (sym place) nothing;
      rest = subst D (sym place) rest;
      processor = subst E (sym place) processor;
    }

pub chip_write_made : (cpu cpu' : Cpu) (bus bus' : BusState) (addr n v : ℕ) → place_at bus.board addr ≡ Own n → clocks_of addr bus.io.fast ≡ 6
    → passed_in (on_bus (chip_written bus n v) v) 6 ≡ []
    → bus' ≡ gone_on (on_bus (chip_written bus n v) v) 6
    → ((s : CpuState) → Stands cpu s → Stands cpu' (with_interrupt_levels (moved_on s 0) (on_bus (chip_written bus n v) v)))
    → IsMadeAtOnce cpu cpu' bus bus' (Write addr v) 6
chip_write_made cpu cpu' bus bus' addr n v place lasts nothing rest processor =
    let A : Place → Type 0 = λ p. write_at p v ≡ Quiet in
    let B : Place → Type 0 = λ p. passed_in (after_write bus p v) 6 ≡ [] in
    let D : Place → Type 0 = λ p. bus' ≡ gone_on (after_write bus p v) 6 in
    let E : Place → Type 0 = λ p. (s : CpuState) → Stands cpu s → Stands cpu' (with_interrupt_levels (moved_on s 0) (after_write bus p v)) in
    record {
      quiet = subst A (sym place) refl;
      lasts = sym lasts;
      nothing = subst B (sym place) nothing;
      rest = subst D (sym place) rest;
      processor = subst E (sym place) processor;
    }
