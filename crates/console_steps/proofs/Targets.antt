-- What an access does by its target is what it does by the place at its address.
use Rattle.std.proofs.Common.{◌≡◌, ℕ, ◌+◌, ◌%◌, ◌==◌, Bool, true, false, nat_lt, Some, refl, sym, ap, subst, ◌∙◌, arith, if◌then◌else◌}
use Rattle.std.proofs.lemmas.Bool.Decides.{nat_tests}
use Rattle.cart_map.specs.declared.places.Place.{Place}
use Rattle.cart_map.specs.declared.places.Place.TheVariants.{Wram, Rom, Ram, BBus, Cpu as Console_chip, Open}
use Rattle.cart_map.specs.Place.{IsInside}
use Rattle.cart_map.specs.Clocks.{clocks_of}
use Rattle.cpu_tables.specs.declared.access.Access.{Access}
use Rattle.cpu_tables.specs.declared.access.Access.TheVariants.{Fetch, Read, Write, Inner}
use Rattle.console_bus.specs.declared.cart_board.CartBoard.{CartBoard}
use Rattle.console_bus.specs.BusState.{BusState}
use Rattle.console_bus.specs.Places.{place_at, place_byte, place_read, place_written, is_port, register_byte, register_read, register_written, on_bus}
use Rattle.console_bus.specs.Memory.{index_of}
use Rattle.console_steps.specs.declared.bus_access.Target.{Target}
use Rattle.console_steps.specs.declared.bus_access.Target.TheVariants.{Memory, Port, Register}
use Rattle.console_steps.specs.ConsoleState.{read_at, write_at, access_act, access_clocks, after_access, byte_of}
use Rattle.console_steps.specs.Targets.{gets_at, target_at, target_byte, target_read, target_written, read_act, write_act}
use Rattle.console_steps.proofs.RegisterPlaces.{port_stays}

-- ---- a byte of the memory

pub memory_target : (board : CartBoard) (p : Place) (at : ℕ) → index_of board p ≡ Some at → Memory at ≡ target_at board p
memory_target board (Wram i) at h = ap Memory (sym (cc))
memory_target board (Ram i) at h = ap Memory (sym (cc))
memory_target board (Rom i) at h = ap Memory (sym (cc))
memory_target board (BBus n) at h = absurd (cc)
memory_target board (Console_chip n) at h = absurd (cc)
memory_target board Open at h = absurd (cc)

-- ---- a port leaves the bus as it is, and gives the byte that it offers

read_stays : (r : BusState) (n : ℕ) → is_port n ≡ true → register_read r n ≡ r
unfolding register_read
read_stays r n port =
    let a : nat_lt n 0x40 ≡ false = grind (arith, nat_tests) in
    let b : (n == 0x80) ≡ false = grind (arith, nat_tests) in
    rw (a, b) refl

gives : (r : BusState) (n got : ℕ) → is_port n ≡ true → register_byte r n got ≡ got
unfolding register_byte
gives r n got port =
    let a : nat_lt n 0x40 ≡ false = grind (arith, nat_tests) in
    let b : nat_lt n 0x80 ≡ true = grind (arith, nat_tests) in
    rw (a, b) refl

-- a test by which a register is chosen
abbrev either : Bool → ℕ → Target
either port n = if port then Port (n % 4) else Register n

register_gives : (r : BusState) (n got : ℕ) (port : Bool) → is_port n ≡ port → target_byte r (either port n) got ≡ register_byte r n got
register_gives r n got true h = sym (gives r n got h)
register_gives r n got false h = refl

register_reads : (r : BusState) (n : ℕ) (port : Bool) → is_port n ≡ port → target_read r (either port n) ≡ register_read r n
register_reads r n true h = sym (read_stays r n h)
register_reads r n false h = refl

register_writes : (r : BusState) (n v : ℕ) (port : Bool) → is_port n ≡ port → target_written r (either port n) v ≡ register_written r n v
register_writes r n v true h = sym (port_stays r n v h)
register_writes r n v false h = refl

-- ---- so what an access does at a place

pub byte_there : (r : BusState) (p : Place) (got : ℕ) → target_byte r (target_at r.board p) got ≡ place_byte r p got
byte_there r (Wram i) got = refl
byte_there r (Ram i) got = refl
byte_there r (Rom i) got = refl
byte_there r (BBus n) got = register_gives r n got (is_port n) refl
byte_there r (Console_chip n) got = refl
byte_there r Open got = refl

pub read_there : (r : BusState) (p : Place) → target_read r (target_at r.board p) ≡ place_read r p
read_there r (Wram i) = refl
read_there r (Ram i) = refl
read_there r (Rom i) = refl
read_there r (BBus n) = register_reads r n (is_port n) refl
read_there r (Console_chip n) = refl
read_there r Open = refl

pub written_there : (r : BusState) (p : Place) (v : ℕ) → IsInside r.board.rom r.board.ram p → target_written r (target_at r.board p) v ≡ place_written r p v
written_there r (Wram i) v inside =
    let ram : nat_lt i (131072 + r.board.ram) ≡ true = grind (arith, nat_tests) in
    rw ram refl
written_there r (Ram i) v inside =
    let ram : nat_lt (131072 + i) (131072 + r.board.ram) ≡ true = grind (arith, nat_tests) in
    rw ram refl
written_there r (Rom i) v inside =
    let rom : nat_lt (131072 + r.board.ram + i) (131072 + r.board.ram) ≡ false = grind (arith, nat_tests) in
    rw rom refl
written_there r (BBus n) v inside = register_writes r n v (is_port n) refl
written_there r (Console_chip n) v inside = refl
written_there r Open v inside = refl

-- ---- and at the ports

register_read_act : (n : ℕ) (port : Bool) → is_port n ≡ port → read_act (either port n) ≡ read_at (BBus n)
register_read_act n true h = rw h refl
register_read_act n false h = rw h refl

register_write_act : (n v : ℕ) (port : Bool) → is_port n ≡ port → write_act (either port n) v ≡ write_at (BBus n) v
register_write_act n v true h = rw h refl
register_write_act n v false h = rw h refl

pub read_act_there : (board : CartBoard) (p : Place) → read_act (target_at board p) ≡ read_at p
read_act_there board (Wram i) = refl
read_act_there board (Ram i) = refl
read_act_there board (Rom i) = refl
read_act_there board (BBus n) = register_read_act n (is_port n) refl
read_act_there board (Console_chip n) = refl
read_act_there board Open = refl

pub write_act_there : (board : CartBoard) (p : Place) (v : ℕ) → write_act (target_at board p) v ≡ write_at p v
write_act_there board (Wram i) v = refl
write_act_there board (Ram i) v = refl
write_act_there board (Rom i) v = refl
write_act_there board (BBus n) v = register_write_act n v (is_port n) refl
write_act_there board (Console_chip n) v = refl
write_act_there board Open v = refl

-- ---- an access of the processor that reaches it

pub record ReadIs (r : BusState) (a : Access) (t : Target) (got : ℕ) : Type 0 where
  pub after : on_bus (target_read r t) (target_byte r t got) ≡ after_access r a got
  pub byte : target_byte r t got ≡ byte_of r a got
  pub act : read_act t ≡ access_act r a

read_at_address : (r : BusState) (addr : ℕ) (t : Target) (got : ℕ) → t ≡ target_at r.board (place_at r.board addr) → ReadIs r (Read addr) t got
read_at_address r addr t got h =
    let place = place_at r.board addr in
    let byte = ap (λ x. target_byte r x got) h ∙ byte_there r place got in
    let read = ap (λ x. target_read r x) h ∙ read_there r place in
    record {
      after = ap (λ q. on_bus q (target_byte r t got)) read ∙ ap (λ b. on_bus (place_read r place) b) byte;
      byte = byte;
      act = ap read_act h ∙ read_act_there r.board place;
    }

pub read_is : (r : BusState) (a : Access) (addr : ℕ) (t : Target) (got : ℕ) → gets_at a addr → t ≡ target_at r.board (place_at r.board addr) → ReadIs r a t got
read_is r (Fetch n) addr t got e h =
    let m = read_at_address r n t got (subst (λ (x : ℕ). t ≡ target_at r.board (place_at r.board x)) (sym e) h) in
    record { after = m.after; byte = m.byte; act = m.act }
read_is r (Read n) addr t got e h = read_at_address r n t got (subst (λ (x : ℕ). t ≡ target_at r.board (place_at r.board x)) (sym e) h)
read_is r (Write n v) addr t got e h = absurd e
read_is r Inner addr t got e h = absurd e

pub read_lasts : (a : Access) (addr : ℕ) (fast : Bool) → gets_at a addr → clocks_of addr fast ≡ access_clocks a fast
read_lasts (Fetch n) addr fast e = ap (λ x. clocks_of x fast) (sym e)
read_lasts (Read n) addr fast e = ap (λ x. clocks_of x fast) (sym e)
read_lasts (Write n v) addr fast e = absurd e
read_lasts Inner addr fast e = absurd e

pub write_is : (r : BusState) (a : Access) (addr v : ℕ) (t : Target) (got : ℕ) → a ≡ Write addr v → t ≡ target_at r.board (place_at r.board addr)
    → IsInside r.board.rom r.board.ram (place_at r.board addr) → on_bus (target_written r t v) v ≡ after_access r a got
write_is r a addr v t got e h inside =
    let P : Access → Type 0 = λ x. on_bus (target_written r t v) v ≡ after_access r x got in
    subst P (sym e) (ap (λ q. on_bus q v) (ap (λ x. target_written r x v) h ∙ written_there r (place_at r.board addr) v inside))
