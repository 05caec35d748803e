-- Data that is read, and what ends an instruction.
use Rattle.std.proofs.Common.{◌≡◌, ℕ, ◌+◌, ◌*◌, ◌<◌, Bool, true, false, slice_index, refl, sym, subst, arith}
use Rattle.cpu_tables.specs.declared.mode.Mode.{Mode}
use Rattle.cpu_tables.specs.declared.mode.Mode.TheVariants.{Immediate}
use Rattle.cpu_tables.specs.declared.opcode.Row.{Row}
use Rattle.cpu_tables.specs.declared.operation.Op.{Op}
use Rattle.cpu_tables.specs.declared.regs.Regs.{Regs}
use Rattle.cpu_alu.specs.Results.{registers_after}
use Rattle.cpu_modes.specs.Addresses.{join, second, is_wide}
use Rattle.cpu_modes.specs.Orders.{by_mode, done, immediate_high, load_high, order}
use Rattle.cpu_modes.specs.Plan.{Plan, ends}
use Rattle.cpu_modes.specs.Uses.{use_of}
use Rattle.cpu_modes.specs.declared.place.Direction.{Direction}
use Rattle.cpu_modes.specs.declared.place.Reach.{Reach}
use Rattle.cpu_modes.specs.declared.uses.Use.{Use}
use Rattle.cpu_modes.specs.declared.uses.Width.{Width}
use Rattle.beam.specs.Places.{clocks_left}
use Rattle.console_bus.specs.BusState.{BusState}
use Rattle.console_bus.specs.Memory.{IsMemoryAt}
use Rattle.console_bus.specs.Places.{on_bus}
use Rattle.console_steps.specs.AtOnce.{gone_on}
use Rattle.whole_instructions.specs.Passes.{Passes}
use Rattle.whole_instructions.specs.Looks.{Makes, Looks}
use Rattle.whole_instructions.specs.Fetching.{HasCode, IsOpcodeOf, IsRowAt, IsMade, Reaches, past}
use Rattle.whole_instructions.proofs.Looks.{looks_read, looks_then, makes_then, makes_told}
use Rattle.whole_instructions.proofs.Fetches.{looks_code, looks_opcode}
use Rattle.whole_instructions.proofs.Reaching.{byte, word}

-- an instruction from its opcode on, as far as a plan
pub begins : (bus bus' : BusState) (r : Regs) (q : Plan) (at clocks more all last : ℕ) (row : Row) → HasCode bus r at clocks → IsOpcodeOf bus at row
    → bus'.picture ≡ bus.picture → bus'.beam ≡ bus.beam
    → ((l : ℕ) → Makes bus r (order row (past r 1)) l bus' r q last more) → all ≡ clocks + more → all < clocks_left bus.beam
    → (start : Regs) → Passes start r (ends r) q bus (gone_on (on_bus bus' last) all)
begins bus bus' r q at clocks more all last row h is picture beam makes sum few start =
    makes_told bus bus' start r (ends r) q last all picture beam
    (makes_then bus bus bus' start r r _ _ _ bus.last (slice_index bus.memory at) last clocks more all refl
    (looks_opcode bus r at clocks start bus.last row h is) (makes (slice_index bus.memory at)) sum) few

-- .. that looks at nothing after its opcode
pub begins_at : (bus : BusState) (r : Regs) (q : Plan) (at clocks more all last : ℕ) (row : Row) → HasCode bus r at clocks → IsOpcodeOf bus at row
    → Looks bus r (order row (past r 1)) (slice_index bus.memory at) r q last more → all ≡ clocks + more → all < clocks_left bus.beam
    → (start : Regs) → Passes start r (ends r) q bus (gone_on (on_bus bus last) all)
begins_at bus r q at clocks more all last row h is looks sum few start =
    makes_told bus bus start r (ends r) q last all refl refl
    (looks_then bus start r r _ _ _ bus.last (slice_index bus.memory at) last clocks more all
    (looks_opcode bus r at clocks start bus.last row h is) looks sum) few

-- .. whose accesses all look
pub looks_made : (bus : BusState) (r r' : Regs) (at clocks more all last : ℕ) (row : Row) → HasCode bus r at clocks → IsOpcodeOf bus at row
    → ((l : ℕ) → Looks bus r (order row (past r 1)) l r (ends r') last more) → all ≡ clocks + more → all < clocks_left bus.beam
    → IsMade r r' bus (gone_on (on_bus bus last) all)
looks_made bus r r' at clocks more all last row h is looks sum few =
    begins bus bus r (ends r') at clocks more all last row h is refl refl looks sum few

-- the program counter does not make data wider
pub wide_past : (width : Width) (r : Regs) (n : ℕ) → is_wide width (past r n) ≡ is_wide width r
wide_past Width.Memory r n = refl
wide_past Width.Index r n = refl
wide_past Width.Byte r n = refl
wide_past Width.Word r n = refl

-- the order of an operation that reads data
load_order : (op : Op) (mode : Mode) (width : Width) (wide : Bool) (r : Regs) → use_of op ≡ Use.Load width → is_wide width r ≡ wide
    → order (record { op = op; mode = mode }) (past r 1) ≡ by_mode mode (record { direction = Direction.Load; wide = wide }) (record { op = op; mode = mode }) (past r 1)
load_order op mode width wide r uses e = rw (uses, wide_past width r 1, e) refl

-- data of 8 bits
pub narrow_load : (bus : BusState) (r : Regs) (at clocks before operands to seen place lasts all : ℕ) (op : Op) (mode : Mode) (reach : Reach) (width : Width)
    → HasCode bus r at clocks → IsRowAt bus at op mode → use_of op ≡ Use.Load width → is_wide width r ≡ false
    → Reaches mode reach bus r (record { direction = Direction.Load; wide = false }) operands before to seen
    → IsMemoryAt bus.board bus.io.fast to place lasts → all ≡ clocks + before + lasts → all < clocks_left bus.beam
    → IsMade r (registers_after op mode (past r (operands + 1)) (slice_index bus.memory place)) bus (gone_on (on_bus bus (slice_index bus.memory place)) all)
narrow_load bus r at clocks before operands to seen place lasts all op mode reach width h is uses narrow reaches m sum few =
    let row : Row = record { op = op; mode = mode } in
    let rn = past r (operands + 1) in
    let got = slice_index bus.memory place in
    let P : Plan → Type 0 = λ p. (l : ℕ) → Looks bus r p l r (done row rn got) got (before + lasts) in
    looks_made bus r (registers_after op mode rn got) at clocks (before + lasts) all got row h is.row
    (subst P (sym (load_order op mode width false r uses narrow)) (λ l.
    looks_then bus r r r _ _ _ l seen got before lasts _ (reaches row r l)
    (looks_read bus r to place lasts seen (λ low. done row rn low) m) refl))
    (omega (arith, sum)) few

-- data of 16 bits
pub wide_load : (bus : BusState) (r : Regs) (at clocks before operands to seen place place' lasts all : ℕ) (op : Op) (mode : Mode) (reach : Reach) (width : Width)
    → HasCode bus r at clocks → IsRowAt bus at op mode → use_of op ≡ Use.Load width → is_wide width r ≡ true
    → Reaches mode reach bus r (record { direction = Direction.Load; wide = true }) operands before to seen
    → IsMemoryAt bus.board bus.io.fast to place lasts → IsMemoryAt bus.board bus.io.fast (second reach to) place' lasts
    → all ≡ clocks + before + 2 * lasts → all < clocks_left bus.beam
    → IsMade r (registers_after op mode (past r (operands + 1)) (join (slice_index bus.memory place) (slice_index bus.memory place')))
    bus (gone_on (on_bus bus (slice_index bus.memory place')) all)
wide_load bus r at clocks before operands to seen place place' lasts all op mode reach width h is uses wide reaches m m' sum few =
    let row : Row = record { op = op; mode = mode } in
    let rn = past r (operands + 1) in
    let low = slice_index bus.memory place in
    let high = slice_index bus.memory place' in
    let P : Plan → Type 0 = λ p. (l : ℕ) → Looks bus r p l r (done row rn (join low high)) high (before + (lasts + lasts)) in
    looks_made bus r (registers_after op mode rn (join low high)) at clocks (before + (lasts + lasts)) all high row h is.row
    (subst P (sym (load_order op mode width true r uses wide)) (λ l.
    looks_then bus r r r _ _ _ l seen high before (lasts + lasts) _ (reaches row r l)
    (looks_then bus r r r _ _ _ seen low high lasts lasts _
    (looks_read bus r to place lasts seen (λ b. load_high row rn (second reach to) b) m)
    (looks_read bus r (second reach to) place' lasts low (λ b. done row rn (join low b)) m') refl) refl))
    (omega (arith, sum)) few

-- ---- data after the opcode

pub narrow_immediate : (bus : BusState) (r : Regs) (at clocks all : ℕ) (op : Op) (width : Width) → HasCode bus r at clocks
    → IsRowAt bus at op Immediate → use_of op ≡ Use.Load width → is_wide width r ≡ false
    → all ≡ 2 * clocks → all < clocks_left bus.beam
    → IsMade r (registers_after op Immediate (past r 2) (byte bus at 1)) bus (gone_on (on_bus bus (byte bus at 1)) all)
narrow_immediate bus r at clocks all op width h is uses narrow sum few =
    let row : Row = record { op = op; mode = Immediate } in
    let got = byte bus at 1 in
    let P : Plan → Type 0 = λ p. (l : ℕ) → Looks bus r p l r (done row (past r 2) got) got clocks in
    looks_made bus r (registers_after op Immediate (past r 2) got) at clocks clocks all got row h is.row
    (subst P (sym (load_order op Immediate width false r uses narrow)) (λ l. looks_code bus r at clocks 1 r l (λ b q. done row q b) h (omega arith)))
    (omega (arith, sum)) few

pub wide_immediate : (bus : BusState) (r : Regs) (at clocks all : ℕ) (op : Op) (width : Width) → HasCode bus r at clocks
    → IsRowAt bus at op Immediate → use_of op ≡ Use.Load width → is_wide width r ≡ true
    → all ≡ 3 * clocks → all < clocks_left bus.beam
    → IsMade r (registers_after op Immediate (past r 3) (word bus at)) bus (gone_on (on_bus bus (byte bus at 2)) all)
wide_immediate bus r at clocks all op width h is uses wide sum few =
    let row : Row = record { op = op; mode = Immediate } in
    let P : Plan → Type 0 = λ p. (l : ℕ) → Looks bus r p l r (done row (past r 3) (word bus at)) (byte bus at 2) (2 * clocks) in
    looks_made bus r (registers_after op Immediate (past r 3) (word bus at)) at clocks (2 * clocks) all (byte bus at 2) row h is.row
    (subst P (sym (load_order op Immediate width true r uses wide)) (λ l.
    looks_then bus r r r _ _ _ l (byte bus at 1) (byte bus at 2) clocks clocks _
    (looks_code bus r at clocks 1 r l (λ b q. immediate_high row q b) h (omega arith))
    (looks_code bus r at clocks 2 r (byte bus at 1) (λ b q. done row q (join (byte bus at 1) b)) h (omega arith)) (omega arith)))
    (omega (arith, sum)) few
