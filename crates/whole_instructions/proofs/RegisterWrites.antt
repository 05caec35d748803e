-- A byte that is written to a register of the B bus other than a port.
use Rattle.std.proofs.Common.{◌≡◌, ℕ, ◌+◌, ◌%◌, ◌==◌, ◌<◌, Bool, true, false, nat_lt, [], slice_index, if◌then◌else◌, refl, sym, ap, subst, ◌∙◌, arith}
use Rattle.snes_defs.specs.declared.ports.Act.TheVariants.{Quiet}
use Rattle.cart_map.specs.declared.places.Place.TheVariants.{BBus}
use Rattle.cart_map.specs.Clocks.{clocks_of}
use Rattle.cpu_tables.specs.declared.access.Access.TheVariants.{Write}
use Rattle.cpu_tables.specs.declared.mode.Mode.{Mode}
use Rattle.cpu_tables.specs.declared.opcode.Row.{Row}
use Rattle.cpu_tables.specs.declared.operation.Op.{Op}
use Rattle.cpu_tables.specs.declared.regs.Regs.{Regs}
use Rattle.cpu_alu.specs.Results.{operand_written}
use Rattle.cpu_modes.specs.Addresses.{is_wide}
use Rattle.cpu_modes.specs.Plan.{Plan, ends, writes}
use Rattle.cpu_modes.specs.Uses.{use_of}
use Rattle.cpu_modes.specs.declared.place.Direction.{Direction}
use Rattle.cpu_modes.specs.declared.place.Reach.{Reach}
use Rattle.cpu_modes.specs.declared.uses.Use.{Use}
use Rattle.cpu_modes.specs.declared.uses.Width.{Width}
use Rattle.beam.specs.Places.{clocks_left}
use Rattle.dma_hdma.specs.Channels.{due_of as transfer_of}
use Rattle.console_bus.specs.BusState.{BusState}
use Rattle.console_bus.specs.Places.{place_at, is_port, register_written, on_bus}
use Rattle.console_steps.specs.ConsoleState.{after_access, write_at}
use Rattle.console_steps.specs.AtOnce.{gone_on, passed_in}
use Rattle.whole_instructions.specs.Passes.{Passes}
use Rattle.whole_instructions.specs.Looks.{Looks}
use Rattle.whole_instructions.specs.Fetching.{HasCode, IsRowAt, IsMade, Reaches, past}
use Rattle.whole_instructions.proofs.Beams.{nearer_by}
use Rattle.whole_instructions.proofs.Passes.{passes_one, passes_then}
use Rattle.whole_instructions.proofs.Orders.{store_order}
use Rattle.whole_instructions.proofs.DataReads.{begins}

-- what such a write leaves of the bus
pub record KeepsRest (r q : BusState) : Type 0 where
  pub io : q.io ≡ r.io
  pub beam : q.beam ≡ r.beam
  pub reset : q.reset ≡ r.reset
  pub refresh : q.refresh ≡ r.refresh
  pub channels : q.channels ≡ r.channels

either : (b : Bool) (r x y : BusState) → KeepsRest r x → KeepsRest r y → KeepsRest r (if b then x else y)
either true r x y h k = h
either false r x y h k = k

pub register_keeps : (r : BusState) (n v : ℕ) → KeepsRest r (register_written r n v)
unfolding register_written
register_keeps r n v =
    either (nat_lt n 0x40) r _ _ (record { io = refl; beam = refl; reset = refl; refresh = refl; channels = refl })
    (either (n == 0x80) r _ _ (record { io = refl; beam = refl; reset = refl; refresh = refl; channels = refl })
    (either (n == 0x81) r _ _ (record { io = refl; beam = refl; reset = refl; refresh = refl; channels = refl })
    (either (n == 0x82) r _ _ (record { io = refl; beam = refl; reset = refl; refresh = refl; channels = refl })
    (either (n == 0x83) r _ _ (record { io = refl; beam = refl; reset = refl; refresh = refl; channels = refl })
    (record { io = refl; beam = refl; reset = refl; refresh = refl; channels = refl })))))

no_port : (n v : ℕ) → is_port n ≡ false → write_at (BBus n) v ≡ Quiet
no_port n v h = rw h refl

pub passes_register : (bus : BusState) (start : Regs) (to v n : ℕ) (more : Plan) → place_at bus.board to ≡ BBus n → ((fast : Bool) → clocks_of to fast ≡ 6)
    → is_port n ≡ false → 6 < clocks_left bus.beam
    → Passes start start (writes to v more) more bus (gone_on (on_bus (register_written bus n v) v) 6)
passes_register bus start to v n more place lasts port few =
    let put = on_bus (register_written bus n v) v in
    let k = register_keeps bus n v in
    let effect : after_access bus (Write to v) 0 ≡ put = rw place refl in
    let near = nearer_by put.picture.registers.settings.overscan bus.beam 6 few in
    let quiet : write_at (place_at bus.board to) v ≡ Quiet = rw place (no_port n v port) in
    let P : BusState → Type 0 = λ r. gone_on put 6 ≡ gone_on r 6 in
    let Nothing : BusState → Type 0 = λ r. passed_in r 6 ≡ [] in
    passes_one start (writes to v more) bus (gone_on put 6) (Write to v) 6 refl quiet (sym (lasts bus.io.fast))
    (subst Nothing (sym effect) (rw k.beam near.none)) (subst P (sym effect) refl)
    (ap (λ (r : BusState). r.io) effect ∙ k.io) few (rw k.beam near.left)
    (λ h. record { reset = k.reset ∙ h.reset; refresh = k.refresh ∙ h.refresh; transfer = ap transfer_of k.channels ∙ h.transfer })

-- an instruction that writes such a byte
pub register_store : (bus mid bus' : BusState) (r : Regs) (at clocks before operands to seen n all v : ℕ) (op : Op) (mode : Mode) (reach : Reach) (width : Width)
    → HasCode bus r at clocks → IsRowAt bus at op mode → use_of op ≡ Use.Store width → is_wide width r ≡ false
    → Reaches mode reach bus r (record { direction = Direction.Store; wide = false }) operands before to seen
    → all ≡ clocks + before → all + 6 < clocks_left bus.beam
    → mid ≡ gone_on (on_bus bus seen) all
    → place_at bus.board to ≡ BBus n → ((fast : Bool) → clocks_of to fast ≡ 6) → is_port n ≡ false
    → v ≡ operand_written op mode (past r (operands + 1)) 0 % 256
    → bus' ≡ gone_on (on_bus (register_written mid n v) v) 6
    → IsMade r (past r (operands + 1)) bus bus'
register_store bus mid bus' r at clocks before operands to seen n all v op mode reach width h is uses narrow reaches sum few there place lasts port value end = λ start.
    let row : Row = record { op = op; mode = mode } in
    let rn = past r (operands + 1) in
    let looked = gone_on (on_bus bus seen) all in
    let word = operand_written op mode rn 0 in
    let first : all < clocks_left bus.beam = omega (arith, few) in
    let near = nearer_by bus.picture.registers.settings.overscan bus.beam all first in
    let left = near.left in
    let P : Plan → Type 0 = λ p. (l : ℕ) → Looks bus r p l r (writes to (word % 256) (ends rn)) seen before in
    let one = begins bus bus r (writes to (word % 256) (ends rn)) at clocks before all seen row h is.row refl refl
    (subst P (sym (store_order row width false r uses (sym narrow))) (λ l. reaches row r l)) sum first start in
    let Q : ℕ → Type 0 = λ x. Passes r r (writes to x (ends rn)) (ends rn) looked (gone_on (on_bus (register_written looked n v) v) 6) in
    let two = subst Q value (passes_register looked r to v n (ends rn) place lasts port (omega (arith, few, left))) in
    rw (end, there) (passes_then start r r (ends r) (writes to (word % 256) (ends rn)) (ends rn) bus looked (gone_on (on_bus (register_written looked n v) v) 6) one two)
