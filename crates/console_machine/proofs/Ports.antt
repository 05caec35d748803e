-- An access of a port as the step of a console state.
use Rattle.std.proofs.Common.{◌≡◌, ℕ, ◌==◌, true, false, nat_lt, List, [], ◌++◌, refl, sym, subst, ap, ◌∙◌, arith}
use Rattle.std.proofs.lemmas.List.{append-nil}
use Rattle.std.proofs.lemmas.Bool.Decides.{nat_tests}
use Rattle.cart_map.specs.declared.places.Place.{Place}
use Rattle.cart_map.specs.declared.places.Place.TheVariants.{BBus}
use Rattle.cart_map.specs.Clocks.{clocks_of}
use Rattle.cpu_tables.specs.declared.access.Access.{Access}
use Rattle.cpu_tables.specs.declared.access.Access.TheVariants.{Read, Write}
use Rattle.cpu65816.specs.declared.processor.Cpu.{Cpu}
use Rattle.cpu65816.specs.Instruction.{CpuState, moved_on}
use Rattle.cpu65816.specs.Stands.{Stands, access_of}
use Rattle.console_bus.specs.BusState.{BusState}
use Rattle.console_bus.specs.Places.{place_at, place_byte, is_port, register_byte, register_read, register_written, on_bus}
use Rattle.console_steps.specs.ConsoleState.{ConsoleState, Due, Accesses, due_of, due_clocks, after_access, after_read, after_write, effect, console_after, bytes_after, after_clocks, bytes_in, with_interrupt_levels}
use Rattle.console_steps.specs.Stands.{IsAt}
use Rattle.console_steps.specs.AtOnce.{gone_on, passed_in}
use Rattle.console_steps.specs.Plain.{IsCalm}
use Rattle.console_steps.proofs.PassSteps.{went_on}
use Rattle.console_machine.specs.Ports.{IsPortMade}
use Rattle.console_machine.proofs.AtOnce.{due_access}

-- ---- a port leaves the bus as it is, and gives the byte that it offers

read_stays : (r : BusState) (n : ℕ) → is_port n ≡ true → register_read r n ≡ r
unfolding register_read
read_stays r n port =
    let a : nat_lt n 0x40 ≡ false = grind (arith, nat_tests) in
    let b : (n == 0x80) ≡ false = grind (arith, nat_tests) in
    rw (a, b) refl

write_stays : (r : BusState) (n v : ℕ) → is_port n ≡ true → register_written r n v ≡ r
unfolding register_written
write_stays r n v port =
    let a : nat_lt n 0x40 ≡ false = grind (arith, nat_tests) in
    let b : (n == 0x80) ≡ false = grind (arith, nat_tests) in
    let d : (n == 0x81) ≡ false = grind (arith, nat_tests) in
    let e : (n == 0x82) ≡ false = grind (arith, nat_tests) in
    let f : (n == 0x83) ≡ false = grind (arith, nat_tests) in
    rw (a, b, d, e, f) refl

gives : (r : BusState) (n got : ℕ) → is_port n ≡ true → register_byte r n got ≡ got
unfolding register_byte
gives r n got port =
    let a : nat_lt n 0x40 ≡ false = grind (arith, nat_tests) in
    let b : nat_lt n 0x80 ≡ true = grind (arith, nat_tests) in
    rw (a, b) refl

-- ---- by an address where it lies

port_read : (r : BusState) (addr n got : ℕ) → place_at r.board addr ≡ BBus n → is_port n ≡ true
    → after_read r (place_at r.board addr) (place_byte r (place_at r.board addr) got) ≡ on_bus r got
port_read r addr n got place port =
    let P : Place → Type 0 = λ p. after_read r p (place_byte r p got) ≡ on_bus r got in
    let same : on_bus (register_read r n) (register_byte r n got) ≡ on_bus r got =
    ap {A = BusState} {B = BusState} (λ x. on_bus x (register_byte r n got)) (read_stays r n port) ∙ ap {A = ℕ} {B = BusState} (λ b. on_bus r b) (gives r n got port) in
    subst P (sym place) same

port_byte : (r : BusState) (addr n got : ℕ) → place_at r.board addr ≡ BBus n → is_port n ≡ true → place_byte r (place_at r.board addr) got ≡ got
port_byte r addr n got place port =
    let P : Place → Type 0 = λ p. place_byte r p got ≡ got in
    subst P (sym place) (gives r n got port)

port_write : (r : BusState) (addr n v : ℕ) → place_at r.board addr ≡ BBus n → is_port n ≡ true → after_write r (place_at r.board addr) v ≡ on_bus r v
port_write r addr n v place port =
    let P : Place → Type 0 = λ p. after_write r p v ≡ on_bus r v in
    subst P (sym place) (ap {A = BusState} {B = BusState} (λ x. on_bus x v) (write_stays r n v port))

pub port_read_made : (cpu cpu' : Cpu) (bus bus' : BusState) (addr n got : ℕ) → place_at bus.board addr ≡ BBus n → clocks_of addr bus.io.fast ≡ 6 → is_port n ≡ true
    → passed_in (on_bus bus got) 6 ≡ [] → bus' ≡ gone_on (on_bus bus got) 6
    → ((s : CpuState) → Stands cpu s → Stands cpu' (with_interrupt_levels (moved_on s got) (on_bus bus got)))
    → IsPortMade cpu cpu' bus bus' (Read addr) got
port_read_made cpu cpu' bus bus' addr n got place lasts port nothing rest processor =
    let after = sym (port_read bus addr n got place port) in
    let byte = sym (port_byte bus addr n got place port) in
    let N : BusState → Type 0 = λ r. passed_in r 6 ≡ [] in
    let R : BusState → Type 0 = λ r. bus' ≡ gone_on r 6 in
    let B : ℕ → Type 0 = λ b. (s : CpuState) → Stands cpu s → Stands cpu' (with_interrupt_levels (moved_on s b) (on_bus bus got)) in
    let Q : BusState → Type 0 = λ r. (s : CpuState) → Stands cpu s → Stands cpu' (with_interrupt_levels (moved_on s (place_byte bus (place_at bus.board addr) got)) r) in
    record {
      lasts = lasts;
      nothing = subst N after nothing;
      rest = subst R after rest;
      processor = subst Q after (subst B byte processor);
    }

pub port_write_made : (cpu cpu' : Cpu) (bus bus' : BusState) (addr n v got : ℕ) → place_at bus.board addr ≡ BBus n → clocks_of addr bus.io.fast ≡ 6 → is_port n ≡ true
    → passed_in (on_bus bus v) 6 ≡ [] → bus' ≡ gone_on (on_bus bus v) 6
    → ((s : CpuState) → Stands cpu s → Stands cpu' (with_interrupt_levels (moved_on s 0) (on_bus bus v)))
    → IsPortMade cpu cpu' bus bus' (Write addr v) got
port_write_made cpu cpu' bus bus' addr n v got place lasts port nothing rest processor =
    let after = sym (port_write bus addr n v place port) in
    let N : BusState → Type 0 = λ r. passed_in r 6 ≡ [] in
    let R : BusState → Type 0 = λ r. bus' ≡ gone_on r 6 in
    let Q : BusState → Type 0 = λ r. (s : CpuState) → Stands cpu s → Stands cpu' (with_interrupt_levels (moved_on s 0) r) in
    record {
      lasts = lasts;
      nothing = subst N after nothing;
      rest = subst R after rest;
      processor = subst Q after processor;
    }

-- ---- a step of a console state, which is due: so many clocks long, with nothing emitted

pub record IsPortStep (cpu' : Cpu) (bus' : BusState) (w : ConsoleState) (due : Due) (got : ℕ) : Type 0 where
  pub at : IsAt cpu' bus' (console_after w due got)
  pub none : bytes_after w due got ≡ []
  pub lasts : 6 ≡ due_clocks due w.rest.io.fast

told_port : (cpu cpu' : Cpu) (bus' : BusState) (w : ConsoleState) (a : Access) (got : ℕ) → Stands cpu w.processor → IsPortMade cpu cpu' w.rest bus' a got
    → IsPortStep cpu' bus' w (Accesses a) got
told_port cpu cpu' bus' w a got s m =
    let there : IsAt cpu' (after_access w.rest a got) (effect w (Accesses a) got) = record { processor = m.processor w.processor s; rest = refl } in
    let on = went_on cpu' (after_access w.rest a got) bus' (effect w (Accesses a) got) 6 there m.nothing m.rest in
    let At : ℕ → Type 0 = λ n. IsAt cpu' bus' (after_clocks (effect w (Accesses a) got) n) in
    let Emits : ℕ → Type 0 = λ n. bytes_in (effect w (Accesses a) got) n ≡ [] in
    record { at = subst At (sym m.lasts) on.0; none = subst Emits (sym m.lasts) on.1; lasts = sym m.lasts }

pub is_port_step : (cpu cpu' : Cpu) (bus bus' : BusState) (w : ConsoleState) (got : ℕ) → IsAt cpu bus w → IsPortMade cpu cpu' bus bus' (access_of cpu) got → IsCalm bus
    → IsPortStep cpu' bus' w (due_of w) got
is_port_step cpu cpu' bus bus' w got at m calm =
    let P : BusState → Type 0 = λ r. IsPortMade cpu cpu' r bus' (access_of cpu) got in
    let Q : Due → Type 0 = λ d. IsPortStep cpu' bus' w d got in
    subst Q (sym (due_access cpu bus w at calm.reset calm.refresh calm.transfer)) (told_port cpu cpu' bus' w (access_of cpu) got at.processor (subst P at.rest m))

-- nothing has joined the bytes that wait
pub nothing_joins : (waiting bytes : List ℕ) → bytes ≡ [] → waiting ≡ waiting ++ bytes
nothing_joins waiting bytes none = sym (append-nil waiting) ∙ ap (λ b. waiting ++ b) (sym none)
