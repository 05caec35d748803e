-- Looks: none, one, and some after others.
use Rattle.std.proofs.Common.{◌≡◌, ℕ, ◌+◌, ◌<◌, Bool, true, false, List, [], nat_lt, slice_index, slice_set, if◌then◌else◌, refl, sym, ap, subst, ◌∙◌, arith}
use Rattle.snes_defs.specs.declared.ports.Act.TheVariants.{Quiet}
use Rattle.cpu_tables.specs.declared.access.Access.{Access}
use Rattle.cpu_tables.specs.declared.access.Access.TheVariants.{Fetch, Read, Write, Inner}
use Rattle.cpu_tables.specs.declared.regs.Regs.{Regs}
use Rattle.cpu_tables.specs.Opcodes.{row_of}
use Rattle.cpu_modes.specs.Addresses.{code, fetched}
use Rattle.cpu_modes.specs.Orders.{order_of_opcode}
use Rattle.cpu_modes.specs.Plan.{Plan, fetches, reads, writes, idles, ends, after, finished, first_access}
use Rattle.cpu65816.specs.Instruction.{ahead, registers_by}
use Rattle.beam.specs.Events.{BeamValue, beam_after}
use Rattle.beam.specs.Places.{clocks_left}
use Rattle.console_bus.specs.BusState.{BusState}
use Rattle.dma_hdma.specs.Channels.{due_of as transfer_of}
use Rattle.ppu_regs.specs.Picture.{Picture}
use Rattle.console_bus.specs.Memory.{IsMemoryAt, stored}
use Rattle.console_bus.specs.Places.{place_at, on_bus}
use Rattle.console_steps.specs.ConsoleState.{access_act, access_clocks, after_access, byte_of}
use Rattle.console_steps.specs.AtOnce.{gone_on, passed_in}
use Rattle.console_steps.proofs.AtOnce.{reads as read_of, writes as write_of, ReadsMemory}
use Rattle.whole_instructions.specs.Passes.{Passes}
use Rattle.whole_instructions.specs.Looks.{Makes, Looks, seen, beam_on}
use Rattle.whole_instructions.proofs.Passes.{passes_one, passes_none, passes_then}
use Rattle.whole_instructions.proofs.Beams.{nearer_by, beam_joined}

-- what a byte written to the memory leaves of the bus
pub record Keeps (r q : BusState) : Type 0 where
  pub board : q.board ≡ r.board
  pub io : q.io ≡ r.io
  pub picture : q.picture ≡ r.picture
  pub beam : q.beam ≡ r.beam
  pub reset : q.reset ≡ r.reset
  pub refresh : q.refresh ≡ r.refresh
  pub channels : q.channels ≡ r.channels

keeps_if : (b : Bool) (r : BusState) (m : List ℕ) → Keeps r (if b then (record r { memory = m }) else r)
keeps_if true r m = record { board = refl; io = refl; picture = refl; beam = refl; reset = refl; refresh = refl; channels = refl }
keeps_if false r m = record { board = refl; io = refl; picture = refl; beam = refl; reset = refl; refresh = refl; channels = refl }

pub stored_keeps : (r : BusState) (at v : ℕ) → Keeps r (stored r at v)
stored_keeps r at v = keeps_if (nat_lt at (131072 + r.board.ram)) r (slice_set r.memory at v)

stored_if : (t : Bool) (bus : BusState) (m : List ℕ) (last v : ℕ) (b : BeamValue)
    → record (if t then (record (seen bus last b) { memory = m }) else seen bus last b) { last = v } ≡ seen (if t then (record bus { memory = m }) else bus) v b
stored_if true bus m last v b = refl
stored_if false bus m last v b = refl

-- an access that only puts a byte on the bus
looks_one : (bus : BusState) (start : Regs) (plan : Plan) (a : Access) (byte clocks : ℕ) → first_access (ahead false false plan) ≡ a
    → access_act bus a ≡ Quiet → clocks ≡ access_clocks a bus.io.fast → after_access bus a 0 ≡ record bus { last = byte }
    → clocks < clocks_left bus.beam
    → Passes start (registers_by (finished false plan) start) plan (after (ahead false false plan) (byte_of bus a 0))
    bus (seen bus byte (beam_on bus bus.beam clocks))
looks_one bus start plan a byte clocks first quiet lasts effect few =
    let near = nearer_by bus.picture.registers.settings.overscan bus.beam clocks few in
    let there = seen bus byte (beam_on bus bus.beam clocks) in
    let P : BusState → Type 0 = λ r. there ≡ gone_on r clocks in
    let Nothing : BusState → Type 0 = λ r. passed_in r clocks ≡ [] in
    passes_one start plan bus there a clocks first quiet lasts (subst Nothing (sym effect) near.none) (subst P (sym effect) refl)
    (ap (λ (r : BusState). r.io) effect) few near.left
    (λ h. record { reset = h.reset; refresh = h.refresh; transfer = h.transfer })

-- the byte of the memory at an address, fetched or read
effect_of : (bus : BusState) (addr at : ℕ) → ReadsMemory bus (place_at bus.board addr) at
    → after_access bus (Read addr) 0 ≡ record bus { last = slice_index bus.memory at }
effect_of bus addr at q = rw (q.after, q.byte) refl

pub looks_fetch : (bus : BusState) (start : Regs) (addr at clocks last : ℕ) (more : ℕ → Plan) → IsMemoryAt bus.board bus.io.fast addr at clocks
    → Looks bus start (fetches addr more) last start (more (slice_index bus.memory at)) (slice_index bus.memory at) clocks
looks_fetch bus start addr at clocks last more m b few =
    let from = seen bus last b in
    let q = read_of from (place_at bus.board addr) at m.place in
    let Byte : ℕ → Type 0 = λ n. Passes start start (fetches addr more) (more n) from (seen bus (slice_index bus.memory at) (beam_on bus b clocks)) in
    subst Byte q.byte (looks_one from start (fetches addr more) (Fetch addr) (slice_index bus.memory at) clocks refl q.act m.lasts (effect_of from addr at q) few)

pub looks_read : (bus : BusState) (start : Regs) (addr at clocks last : ℕ) (more : ℕ → Plan) → IsMemoryAt bus.board bus.io.fast addr at clocks
    → Looks bus start (reads addr more) last start (more (slice_index bus.memory at)) (slice_index bus.memory at) clocks
looks_read bus start addr at clocks last more m b few =
    let from = seen bus last b in
    let q = read_of from (place_at bus.board addr) at m.place in
    let Byte : ℕ → Type 0 = λ n. Passes start start (reads addr more) (more n) from (seen bus (slice_index bus.memory at) (beam_on bus b clocks)) in
    subst Byte q.byte (looks_one from start (reads addr more) (Read addr) (slice_index bus.memory at) clocks refl q.act m.lasts (effect_of from addr at q) few)

-- an internal cycle
pub looks_idle : (bus : BusState) (start : Regs) (last : ℕ) (more : Plan) → Looks bus start (idles more) last start more last 6
looks_idle bus start last more b few = looks_one (seen bus last b) start (idles more) Inner last 6 refl refl refl refl few

-- the opcode of an instruction, after one that has ended
pub looks_begin : (bus : BusState) (start r : Regs) (at clocks last : ℕ) → IsMemoryAt bus.board bus.io.fast (code r) at clocks
    → Looks bus start (ends r) last r (order_of_opcode (row_of (slice_index bus.memory at)) (fetched r)) (slice_index bus.memory at) clocks
looks_begin bus start r at clocks last m b few =
    let from = seen bus last b in
    let q = read_of from (place_at bus.board (code r)) at m.place in
    let Byte : ℕ → Type 0 = λ n. Passes start r (ends r) (order_of_opcode (row_of n) (fetched r)) from (seen bus (slice_index bus.memory at) (beam_on bus b clocks)) in
    subst Byte q.byte (looks_one from start (ends r) (Fetch (code r)) (slice_index bus.memory at) clocks refl q.act m.lasts (effect_of from (code r) at q) few)

pub looks_none : (bus : BusState) (start : Regs) (plan : Plan) (last : ℕ) → Looks bus start plan last start plan last 0
unfolding beam_after
looks_none bus start plan last b few = passes_none start plan (seen bus last b)

-- accesses after others; none of them changes the picture, of which the beam knows
pub makes_then : (bus bus' bus'' : BusState) (s t u : Regs) (p q r : Plan) (k l m c d n : ℕ) → bus'.picture ≡ bus.picture
    → Makes bus s p k bus' t q l c → Makes bus' t q l bus'' u r m d → n ≡ c + d → Makes bus s p k bus'' u r m n
makes_then bus bus' bus'' s t u p q r k l m c d n same f g sum b few =
    let o = bus.picture.registers.settings.overscan in
    let first : c < clocks_left b = omega (arith, few, sum) in
    let near = nearer_by o b c first in
    let left = near.left in
    let x = f b first in
    let y = g (beam_on bus b c) (omega (arith, few, sum, left)) in
    let alike : beam_on bus' (beam_on bus b c) d ≡ beam_after o (beam_after o b c) d = ap (λ (z : Picture). beam_after z.registers.settings.overscan (beam_after o b c) d) same in
    let all : beam_on bus' (beam_on bus b c) d ≡ beam_on bus b n = alike ∙ (sym (beam_joined o b c d) ∙ ap (λ (z : ℕ). beam_after o b z) (sym sum)) in
    let P : BeamValue → Type 0 = λ z. Passes s u p r (seen bus k b) (seen bus'' m z) in
    subst P all (passes_then s t u p q r (seen bus k b) (seen bus' l (beam_on bus b c)) (seen bus'' m (beam_on bus' (beam_on bus b c) d)) x y)

pub looks_then : (bus : BusState) (s t u : Regs) (p q r : Plan) (k l m c d n : ℕ) → Looks bus s p k t q l c → Looks bus t q l u r m d
    → n ≡ c + d → Looks bus s p k u r m n
looks_then bus s t u p q r k l m c d n f g sum = makes_then bus bus bus s t u p q r k l m c d n refl f g sum

-- a byte of the memory that is written
stored_seen : (bus : BusState) (at v last : ℕ) (b : BeamValue) → record (stored (seen bus last b) at v) { last = v } ≡ seen (stored bus at v) v b
stored_seen bus at v last b = stored_if (nat_lt at (131072 + bus.board.ram)) bus (slice_set bus.memory at v) last v b

pub makes_write : (bus : BusState) (start : Regs) (addr at v clocks last : ℕ) (more : Plan) → IsMemoryAt bus.board bus.io.fast addr at clocks
    → Makes bus start (writes addr v more) last (stored bus at v) start more v clocks
makes_write bus start addr at v clocks last more m b few =
    let from = seen bus last b in
    let q = write_of from (place_at bus.board addr) at v m.place m.lies in
    let near = nearer_by bus.picture.registers.settings.overscan b clocks few in
    let there = seen (stored bus at v) v (beam_on bus b clocks) in
    let effect : after_access from (Write addr v) 0 ≡ seen (stored bus at v) v b = rw q.after (stored_seen bus at v last b) in
    let same = stored_keeps bus at v in
    let P : BusState → Type 0 = λ r. there ≡ gone_on r clocks in
    let Nothing : BusState → Type 0 = λ r. passed_in r clocks ≡ [] in
    passes_one start (writes addr v more) from there (Write addr v) clocks refl q.act m.lasts
    (subst Nothing (sym effect) (rw same.picture near.none)) (subst P (sym effect) (rw same.picture refl))
    (ap (λ (r : BusState). r.io) effect ∙ same.io) few near.left
    (λ h. record { reset = same.reset ∙ h.reset; refresh = same.refresh ∙ h.refresh; transfer = ap transfer_of same.channels ∙ h.transfer })

-- the bus that is told of looks and writes
pub makes_told : (bus bus' : BusState) (s t : Regs) (p q : Plan) (last clocks : ℕ) → bus'.picture ≡ bus.picture → bus'.beam ≡ bus.beam
    → Makes bus s p bus.last bus' t q last clocks → clocks < clocks_left bus.beam
    → Passes s t p q bus (gone_on (on_bus bus' last) clocks)
makes_told bus bus' s t p q last clocks picture beam f few =
    let same : seen bus' last (beam_on bus bus.beam clocks) ≡ gone_on (on_bus bus' last) clocks =
    ap (λ (z : BeamValue). seen bus' last z) (ap (λ (o : Picture). beam_after o.registers.settings.overscan bus.beam clocks) (sym picture) ∙ ap (λ (z : BeamValue). beam_after bus'.picture.registers.settings.overscan z clocks) (sym beam)) in
    let P : BusState → Type 0 = λ r. Passes s t p q bus r in
    subst P same (f bus.beam few)
