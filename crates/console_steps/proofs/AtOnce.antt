-- Bytes of the memory: what a read or a write of the place at an address does.
use Rattle.std.proofs.Common.{◌≡◌, ℕ, ◌+◌, Bool, true, false, nat_lt, Option, None, Some, IfSome, [], slice_index, refl, sym, ap, subst, ◌∙◌, arith, if◌then◌else◌}
use Rattle.std.proofs.lemmas.Bool.Decides.{nat_tests}
use Rattle.snes_defs.specs.declared.ports.Act.TheVariants.{Quiet}
use Rattle.cart_map.specs.declared.places.Place.{Place}
use Rattle.cart_map.specs.declared.places.Place.TheVariants.{Wram, Rom, Ram, BBus, Cpu as Chip, Open}
use Rattle.cart_map.specs.Place.{IsInside}
use Rattle.cpu_tables.specs.declared.access.Access.{Access}
use Rattle.cpu_tables.specs.declared.access.Access.TheVariants.{Fetch, Read, Write, Inner}
use Rattle.cpu_modes.specs.Plan.{gets_byte}
use Rattle.cpu65816.specs.declared.processor.Cpu.{Cpu}
use Rattle.cpu65816.specs.Instruction.{CpuState, moved_on}
use Rattle.cpu65816.specs.Stands.{Stands}
use Rattle.console_bus.specs.BusState.{BusState}
use Rattle.console_bus.specs.Places.{place_at, place_byte, place_read, place_written}
use Rattle.console_bus.specs.Memory.{index_of, stored, IsMemoryAt}
use Rattle.console_steps.specs.ConsoleState.{read_at, write_at, after_access, byte_of, with_interrupt_levels}
use Rattle.console_steps.specs.Targets.{gets_at}
use Rattle.console_steps.specs.AtOnce.{gone_on, passed_in, IsMadeAtOnce}

-- a read of the byte at this index
pub record ReadsMemory (r : BusState) (p : Place) (at : ℕ) : Type 0 where
  pub byte : place_byte r p 0 ≡ slice_index r.memory at
  pub after : place_read r p ≡ r
  pub act : read_at p ≡ Quiet

pub reads : (r : BusState) (p : Place) (at : ℕ) → index_of r.board p ≡ Some at → ReadsMemory r p at
reads r (Wram i) at h = record { byte = cc; after = refl; act = refl }
reads r (Ram i) at h = record { byte = cc; after = refl; act = refl }
reads r (Rom i) at h = record { byte = cc; after = refl; act = refl }
reads r (BBus n) at h = absurd (cc)
reads r (Chip n) at h = absurd (cc)
reads r Open at h = absurd (cc)

-- a write of the memory leaves the registers of the processor's chip, the picture and the beam
record SameElse (r q : BusState) : Type 0 where
  pub io : q.io ≡ r.io
  pub picture : q.picture ≡ r.picture
  pub beam : q.beam ≡ r.beam

if_same : (b : Bool) (x y r : BusState) → SameElse r x → SameElse r y → SameElse r (if b then x else y)
if_same true x y r h k = h
if_same false x y r h k = k

stored_same : (r : BusState) (at v : ℕ) → SameElse r (stored r at v)
stored_same r at v = if_same (nat_lt at (131072 + r.board.ram)) _ _ r (record { io = refl; picture = refl; beam = refl }) (record { io = refl; picture = refl; beam = refl })

-- a write of it
pub record WritesMemory (r : BusState) (p : Place) (at v : ℕ) : Type 0 where
  pub after : place_written r p v ≡ stored r at v
  pub act : write_at p v ≡ Quiet

pub writes : (r : BusState) (p : Place) (at v : ℕ) → index_of r.board p ≡ Some at → IsInside r.board.rom r.board.ram p → WritesMemory r p at v
writes r (Wram i) at v h inside =
    let a : i ≡ at = cc in
    let ram : nat_lt at (131072 + r.board.ram) ≡ true = grind (arith, nat_tests) in
    record { after = rw (ram, a) refl; act = refl }
writes r (Ram i) at v h inside =
    let a : 131072 + i ≡ at = cc in
    let ram : nat_lt at (131072 + r.board.ram) ≡ true = grind (arith, nat_tests) in
    record { after = rw (ram, a) refl; act = refl }
writes r (Rom i) at v h inside =
    let a : 131072 + r.board.ram + i ≡ at = cc in
    let rom : nat_lt at (131072 + r.board.ram) ≡ false = grind (arith, nat_tests) in
    record { after = rw rom refl; act = refl }
writes r (BBus n) at v h inside = absurd (cc)
writes r (Chip n) at v h inside = absurd (cc)
writes r Open at v h inside = absurd (cc)

-- a byte of the memory that was read at an address
pub read_made : (cpu cpu' : Cpu) (bus bus' : BusState) (addr at clocks : ℕ) → IsMemoryAt bus.board bus.io.fast addr at clocks
    → passed_in bus clocks ≡ []
    → bus' ≡ record bus { last = slice_index bus.memory at; beam = (gone_on bus clocks).beam }
    → ((s : CpuState) → Stands cpu s → Stands cpu' (with_interrupt_levels (moved_on s (slice_index bus.memory at)) bus))
    → IsMadeAtOnce cpu cpu' bus bus' (Read addr) clocks
read_made cpu cpu' bus bus' addr at clocks m nothing rest processor =
    let q = reads bus (place_at bus.board addr) at m.place in
    let after : after_access bus (Read addr) 0 ≡ record bus { last = slice_index bus.memory at } = rw (q.after, q.byte) refl in
    record {
      quiet = q.act;
      lasts = m.lasts;
      nothing = (let P : BusState → Type 0 = λ r. passed_in r clocks ≡ [] in subst P (sym after) nothing);
      rest = rest ∙ ap (λ r. gone_on r clocks) (sym after);
      processor = λ s h. (
          let P : BusState → Type 0 = λ r. Stands cpu' (with_interrupt_levels (moved_on s (byte_of bus (Read addr) 0)) r) in
          let Q : ℕ → Type 0 = λ byte. Stands cpu' (with_interrupt_levels (moved_on s byte) bus) in
          subst P (sym after) (subst Q (sym q.byte) (processor s h)));
    }

-- one that was written
pub write_made : (cpu cpu' : Cpu) (bus bus' : BusState) (addr v at clocks : ℕ) → IsMemoryAt bus.board bus.io.fast addr at clocks
    → passed_in bus clocks ≡ []
    → bus' ≡ record (stored bus at v) { last = v; beam = (gone_on bus clocks).beam }
    → ((s : CpuState) → Stands cpu s → Stands cpu' (with_interrupt_levels (moved_on s 0) bus))
    → IsMadeAtOnce cpu cpu' bus bus' (Write addr v) clocks
write_made cpu cpu' bus bus' addr v at clocks m nothing rest processor =
    let q = writes bus (place_at bus.board addr) at v m.place m.lies in
    let after : after_access bus (Write addr v) 0 ≡ record (stored bus at v) { last = v } = rw q.after refl in
    let same = stored_same bus at v in
    let gone : record (stored bus at v) { last = v; beam = (gone_on bus clocks).beam } ≡ gone_on (record (stored bus at v) { last = v }) clocks = rw (same.picture, same.beam) refl in
    record {
      quiet = q.act;
      lasts = m.lasts;
      nothing = (let P : BusState → Type 0 = λ r. passed_in r clocks ≡ [] in subst P (sym after) (rw (same.picture, same.beam) nothing));
      rest = rest ∙ gone ∙ ap (λ r. gone_on r clocks) (sym after);
      processor = λ s h. (
          let P : BusState → Type 0 = λ r. Stands cpu' (with_interrupt_levels (moved_on s 0) r) in
          subst P (sym after) (rw same.io (processor s h)));
    }

-- an access that gets a byte at an address is a fetch or a read there
pub gets_where_read : (access : Access) (at : ℕ) → gets_at access at → gets_byte access ≡ true
gets_where_read (Fetch addr) at e = refl
gets_where_read (Read addr) at e = refl
gets_where_read (Write addr v) at e = absurd e
gets_where_read Inner at e = absurd e

-- and what makes a read there makes it
pub made_where_read : (cpu cpu' : Cpu) (bus bus' : BusState) (access : Access) (at clocks : ℕ) → gets_at access at
    → IsMadeAtOnce cpu cpu' bus bus' (Read at) clocks → IsMadeAtOnce cpu cpu' bus bus' access clocks
made_where_read cpu cpu' bus bus' (Fetch addr) at clocks e m =
    subst (λ (n : ℕ). IsMadeAtOnce cpu cpu' bus bus' (Fetch n) clocks) (sym e) (record {
      quiet = m.quiet;
      lasts = m.lasts;
      nothing = m.nothing;
      rest = m.rest;
      processor = m.processor;
    })
made_where_read cpu cpu' bus bus' (Read addr) at clocks e m = subst (λ (n : ℕ). IsMadeAtOnce cpu cpu' bus bus' (Read n) clocks) (sym e) m
made_where_read cpu cpu' bus bus' (Write addr v) at clocks e m = absurd e
made_where_read cpu cpu' bus bus' Inner at clocks e m = absurd e

pub some_made_where_read : (cpu cpu' : Cpu) (bus bus' : BusState) (access : Access) (at : ℕ) (made : Option ℕ) → gets_at access at
    → IfSome made (λ clocks. IsMadeAtOnce cpu cpu' bus bus' (Read at) clocks) → IfSome made (λ clocks. IsMadeAtOnce cpu cpu' bus bus' access clocks)
some_made_where_read cpu cpu' bus bus' access at None e m = m
some_made_where_read cpu cpu' bus bus' access at (Some clocks) e m = made_where_read cpu cpu' bus bus' access at clocks e m
