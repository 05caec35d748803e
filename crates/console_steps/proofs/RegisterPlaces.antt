-- A register of the B bus by its address: what a read takes, what a write puts, and what a write leaves as it was.
use Rattle.std.proofs.Common.{◌≡◌, ℕ, ◌==◌, Bool, true, false, nat_lt, [], refl, sym, ap, subst, ◌∙◌, arith, if◌then◌else◌}
use Rattle.std.proofs.lemmas.Bool.Decides.{nat_tests}
use Rattle.cart_map.specs.declared.places.Place.{Place}
use Rattle.cart_map.specs.declared.places.Place.TheVariants.{BBus}
use Rattle.cart_map.specs.Clocks.{clocks_of}
use Rattle.cpu_tables.specs.declared.access.Access.TheVariants.{Write}
use Rattle.cpu65816.specs.declared.processor.Cpu.{Cpu}
use Rattle.cpu65816.specs.Instruction.{CpuState, moved_on}
use Rattle.cpu65816.specs.Stands.{Stands}
use Rattle.dma_hdma.specs.Channels.{due_of as transfer_of}
use Rattle.console_bus.specs.BusState.{BusState}
use Rattle.console_bus.specs.Places.{place_at, place_byte, place_read, is_port, register_byte, register_read, register_written, on_bus}
use Rattle.console_steps.specs.ConsoleState.{after_write}
use Rattle.console_steps.specs.AtOnce.{gone_on, passed_in, IsMadeAtOnce}
use Rattle.console_steps.specs.Plain.{IsWired, IsCalm}
use Rattle.console_steps.proofs.RegisterSteps.{register_write_made}
use Rattle.console_steps.proofs.Wires.{given_again}

-- a write of a port leaves the bus as it is
pub port_stays : (r : BusState) (n v : ℕ) → is_port n ≡ true → register_written r n v ≡ r
unfolding register_written
port_stays r n v port =
    let a : nat_lt n 0x40 ≡ false = grind (arith, nat_tests) in
    let b : (n == 0x80) ≡ false = grind (arith, nat_tests) in
    let d : (n == 0x81) ≡ false = grind (arith, nat_tests) in
    let e : (n == 0x82) ≡ false = grind (arith, nat_tests) in
    let f : (n == 0x83) ≡ false = grind (arith, nat_tests) in
    rw (a, b, d, e, f) refl

-- ---- what a write leaves as it was: the registers of the processor's chip, and whatever may be due before an access

record SameLines (r q : BusState) : Type 0 where
  pub io : q.io ≡ r.io
  pub channels : q.channels ≡ r.channels
  pub refresh : q.refresh ≡ r.refresh
  pub reset : q.reset ≡ r.reset

if_lines : (b : Bool) (x y r : BusState) → SameLines r x → SameLines r y → SameLines r (if b then x else y)
if_lines true x y r h k = h
if_lines false x y r h k = k

written_lines : (r : BusState) (n v : ℕ) → SameLines r (register_written r n v)
unfolding register_written
written_lines r n v =
    if_lines (nat_lt n 0x40) _ _ r (record { io = refl; channels = refl; refresh = refl; reset = refl })
    (if_lines (n == 0x80) _ _ r (record { io = refl; channels = refl; refresh = refl; reset = refl })
    (if_lines (n == 0x81) _ _ r (record { io = refl; channels = refl; refresh = refl; reset = refl })
    (if_lines (n == 0x82) _ _ r (record { io = refl; channels = refl; refresh = refl; reset = refl })
    (if_lines (n == 0x83) _ _ r (record { io = refl; channels = refl; refresh = refl; reset = refl })
    (record { io = refl; channels = refl; refresh = refl; reset = refl })))))

-- so nothing is due after it that was not before
pub calm_after : (bus bus' : BusState) (n v clocks : ℕ) → bus' ≡ gone_on (on_bus (register_written bus n v) v) clocks → IsCalm bus → IsCalm bus'
calm_after bus bus' n v clocks rest calm =
    let same = written_lines bus n v in
    let P : BusState → Type 0 = λ r. IsCalm r in
    subst P (sym rest) (record {
      reset = same.reset ∙ calm.reset;
      refresh = same.refresh ∙ calm.refresh;
      transfer = ap transfer_of same.channels ∙ calm.transfer;
    })

-- .. and a processor that had the levels of its lines has them still
pub register_made_plainly : (cpu cpu' : Cpu) (bus bus' : BusState) (addr n v : ℕ) → IsWired cpu bus → place_at bus.board addr ≡ BBus n → clocks_of addr bus.io.fast ≡ 6
    → is_port n ≡ false → passed_in (on_bus (register_written bus n v) v) 6 ≡ []
    → bus' ≡ gone_on (on_bus (register_written bus n v) v) 6
    → ((s : CpuState) → Stands cpu s → Stands cpu' (moved_on s 0)) → IsMadeAtOnce cpu cpu' bus bus' (Write addr v) 6
register_made_plainly cpu cpu' bus bus' addr n v wired place lasts port nothing rest processor =
    register_write_made cpu cpu' bus bus' addr n v place lasts port nothing rest
    (λ s h. rw (written_lines bus n v).io (given_again cpu cpu' bus s 0 wired h (processor s h)))
