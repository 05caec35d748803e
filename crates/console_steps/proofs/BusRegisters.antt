-- The place of an address: a register of the B bus, a byte of the memory, an address that is too long.
use Rattle.std.proofs.Common.{◌≡◌, ℕ, ◌/◌, ◌%◌, ◌<◌, Bool, true, false, nat_lt, Some, slice_index, refl, subst, arith}
use Rattle.std.proofs.lemmas.Bool.Decides.{nat_tests}
use Rattle.cart_map.specs.declared.places.Place.{Place}
use Rattle.cart_map.specs.declared.places.Place.TheVariants.{Wram, Rom, Ram, BBus, Cpu as Chip, Open}
use Rattle.cart_map.specs.Place.{lies, is_system_bank}
use Rattle.cart_map.specs.Clocks.{clocks_of}
use Rattle.console_bus.specs.declared.cart_board.CartBoard.{CartBoard}
use Rattle.console_bus.specs.BusState.{BusState}
use Rattle.console_bus.specs.Places.{place_at, place_byte, a_side, taken_from}
use Rattle.console_bus.specs.Memory.{index_of, IsMemoryAt}

-- ---- registers of the B bus

system : (bank : ℕ) → bank < 256 → bank % 128 < 64 → (lies 0x7e 0x7f bank ≡ false) × (is_system_bank bank ≡ true)
system bank b h = (grind (arith, nat_tests), grind (arith, nat_tests))

page_21 : (o : ℕ) → o / 256 ≡ 33 → (lies 0 0x5fff o ≡ true) × (lies 0 0x1fff o ≡ false) × (lies 0x2100 0x21ff o ≡ true)
page_21 o h = (grind (arith, nat_tests), grind (arith, nat_tests), grind (arith, nat_tests))

pub register_place : (board : CartBoard) (addr : ℕ) → addr / 65536 % 128 < 64 → addr / 256 % 256 ≡ 33 → place_at board addr ≡ BBus (addr % 256)
register_place board addr bank page =
    let s = system (addr / 65536 % 256) (omega arith) (omega arith) in
    let o = page_21 (addr % 65536) (omega arith) in
    let low : addr % 65536 % 256 ≡ addr % 256 = omega arith in
    rw (s.0, s.1, o.0, o.1, o.2, low) refl

pub register_clocks : (addr : ℕ) (fast : Bool) → addr / 65536 % 128 < 64 → addr / 256 % 256 ≡ 33 → clocks_of addr fast ≡ 6
register_clocks addr fast bank page =
    let a : nat_lt (addr / 65536 % 128) 64 ≡ true = grind (arith, nat_tests) in
    let o : addr % 65536 / 256 ≡ 33 = omega arith in
    let b : nat_lt (addr % 65536) 0x8000 ≡ true = grind (arith, nat_tests) in
    let d : nat_lt (addr % 65536) 0x2000 ≡ false = grind (arith, nat_tests) in
    let e : nat_lt (addr % 65536) 0x4000 ≡ true = grind (arith, nat_tests) in
    rw (a, b, d, e) refl

-- ---- bytes of the memory

-- an address of more than 24 bits is taken without those above
pub place_wraps : (board : CartBoard) (addr : ℕ) → place_at board (addr % 16777216) ≡ place_at board addr
place_wraps board addr =
    let bank : addr % 16777216 / 65536 % 256 ≡ addr / 65536 % 256 = omega arith in
    let offset : addr % 16777216 % 65536 ≡ addr % 65536 = omega arith in
    rw (bank, offset) refl

index_at : (board : CartBoard) (fast : Bool) (addr at clocks : ℕ) → IsMemoryAt board fast (addr % 16777216) at clocks → index_of board (place_at board addr) ≡ Some at
index_at board fast addr at clocks m =
    let P : Place → Type 0 = λ p. index_of board p ≡ Some at in
    subst P (place_wraps board addr) m.place

taken_there : (r : BusState) (p : Place) (at : ℕ) → index_of r.board p ≡ Some at → slice_index r.memory at ≡ place_byte r (a_side p) 0
taken_there r (Wram i) at h = cc
taken_there r (Ram i) at h = cc
taken_there r (Rom i) at h = cc
taken_there r (BBus n) at h = absurd (cc)
taken_there r (Chip n) at h = absurd (cc)
taken_there r Open at h = absurd (cc)

pub memory_taken : (r : BusState) (addr at clocks : ℕ) → IsMemoryAt r.board r.io.fast (addr % 16777216) at clocks → slice_index r.memory at ≡ taken_from r addr
memory_taken r addr at clocks m = taken_there r (place_at r.board addr) at (index_at r.board r.io.fast addr at clocks m)
