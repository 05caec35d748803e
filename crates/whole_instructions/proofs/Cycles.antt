-- Instructions without data: internal cycles, branches, jumps.
use Rattle.std.proofs.Common.{◌≡◌, ℕ, ◌+◌, ◌*◌, ◌<◌, Bool, true, false, slice_index, if◌then◌else◌, refl, sym, subst, arith}
use Rattle.cpu_tables.specs.declared.mode.Mode.{Mode}
use Rattle.cpu_tables.specs.declared.mode.Mode.TheVariants.{Absolute, Accumulator}
use Rattle.cpu_tables.specs.declared.opcode.Row.{Row}
use Rattle.cpu_tables.specs.declared.operation.Op.{Op}
use Rattle.cpu_tables.specs.declared.operation.Op.TheVariants.{Jmp}
use Rattle.cpu_tables.specs.declared.regs.Regs.{Regs}
use Rattle.cpu_alu.specs.Flow.{taken}
use Rattle.cpu_alu.specs.Results.{registers_after}
use Rattle.cpu_modes.specs.Orders.{no_data, done, order, order_by, branch_cycles, leaves_page}
use Rattle.cpu_modes.specs.Plan.{Plan, idles}
use Rattle.cpu_modes.specs.Uses.{use_of}
use Rattle.cpu_modes.specs.declared.place.OperandKind.{OperandKind}
use Rattle.cpu_modes.specs.declared.uses.Use.{Use}
use Rattle.cpu_modes.specs.declared.uses.Width.{Width}
use Rattle.beam.specs.Places.{clocks_left}
use Rattle.console_bus.specs.BusState.{BusState}
use Rattle.console_bus.specs.Places.{on_bus}
use Rattle.console_steps.specs.AtOnce.{gone_on}
use Rattle.whole_instructions.specs.Looks.{Looks}
use Rattle.whole_instructions.specs.Fetching.{HasCode, IsOpcodeOf, IsRowAt, IsMade, past}
use Rattle.whole_instructions.proofs.Looks.{looks_none, looks_idle, looks_then}
use Rattle.whole_instructions.proofs.Fetches.{looks_code}
use Rattle.whole_instructions.proofs.Reaching.{byte, word, operand_at}
use Rattle.whole_instructions.proofs.DataReads.{begins_at, looks_made}

-- two cycles that there are under conditions
cycles : (bus : BusState) (start : Regs) (last : ℕ) (b d : Bool) (more : Plan)
    → Looks bus start (if b then (if d then idles (idles more) else idles more) else more) last start more last (if b then (if d then 12 else 6) else 0)
cycles bus start last true true more = looks_then bus start start start _ _ _ last last last 6 6 _ (looks_idle bus start last (idles more)) (looks_idle bus start last more) refl
cycles bus start last true false more = looks_idle bus start last more
cycles bus start last false d more = looks_none bus start more last

-- one internal cycle
inner : (bus : BusState) (r : Regs) (at clocks all : ℕ) (row : Row) → HasCode bus r at clocks → IsOpcodeOf bus at row
    → order row (past r 1) ≡ idles (done row (past r 1) 0) → all ≡ clocks + 6 → all < clocks_left bus.beam
    → IsMade r (registers_after row.op row.mode (past r 1) 0) bus (gone_on (on_bus bus (slice_index bus.memory at)) all)
inner bus r at clocks all row h is cycle sum few =
    let opcode = slice_index bus.memory at in
    let P : Plan → Type 0 = λ p. Looks bus r p opcode r (done row (past r 1) 0) opcode 6 in
    λ start. begins_at bus r (done row (past r 1) 0) at clocks 6 all opcode row h is
    (subst P (sym cycle) (looks_idle bus r opcode (done row (past r 1) 0))) sum few start

pub internal_made : (bus : BusState) (r : Regs) (at clocks all : ℕ) (op : Op) (mode : Mode) → HasCode bus r at clocks
    → IsRowAt bus at op mode → use_of op ≡ Use.Internal → all ≡ clocks + 6 → all < clocks_left bus.beam
    → IsMade r (registers_after op mode (past r 1) 0) bus (gone_on (on_bus bus (slice_index bus.memory at)) all)
internal_made bus r at clocks all op mode h is uses sum few =
    inner bus r at clocks all (record { op = op; mode = mode }) h is.row (rw uses refl) sum few

pub change_a_made : (bus : BusState) (r : Regs) (at clocks all : ℕ) (op : Op) (width : Width) → HasCode bus r at clocks
    → IsRowAt bus at op Accumulator → use_of op ≡ Use.Change width → all ≡ clocks + 6 → all < clocks_left bus.beam
    → IsMade r (registers_after op Accumulator (past r 1) 0) bus (gone_on (on_bus bus (slice_index bus.memory at)) all)
change_a_made bus r at clocks all op width h is uses sum few =
    inner bus r at clocks all (record { op = op; mode = Accumulator }) h is.row (rw uses refl) sum few

-- an operand, and an internal cycle
pub status_made : (bus : BusState) (r : Regs) (at clocks all : ℕ) (op : Op) (mode : Mode) → HasCode bus r at clocks
    → IsRowAt bus at op mode → use_of op ≡ Use.Status → all ≡ 2 * clocks + 6 → all < clocks_left bus.beam
    → IsMade r (registers_after op mode (past r 2) (byte bus at 1)) bus (gone_on (on_bus bus (byte bus at 1)) all)
status_made bus r at clocks all op mode h is uses sum few =
    let row : Row = record { op = op; mode = mode } in
    let got = byte bus at 1 in
    let P : Plan → Type 0 = λ p. (l : ℕ) → Looks bus r p l r (done row (past r 2) got) got (clocks + 6) in
    let same : order row (past r 1) ≡ order_by Use.Status row (past r 1) = rw uses refl in
    looks_made bus r (registers_after op mode (past r 2) got) at clocks (clocks + 6) all got row h is.row
    (subst P (sym same) (λ l. looks_then bus r r r _ _ _ l got got clocks 6 _
    (looks_code bus r at clocks 1 r l (λ b q. idles (done row q b)) h (omega arith))
    (looks_idle bus r got (done row (past r 2) got)) refl)) (omega (arith, sum)) few

-- the cycles of a branch
abbrev pub branch_clocks : Op → Regs → ℕ → ℕ
branch_clocks op r offset = if taken op r.p then (if leaves_page r offset then 12 else 6) else 0

pub branch_made : (bus : BusState) (r : Regs) (at clocks all : ℕ) (op : Op) (mode : Mode) → HasCode bus r at clocks
    → IsRowAt bus at op mode → use_of op ≡ Use.Branch
    → all ≡ 2 * clocks + branch_clocks op (past r 2) (byte bus at 1) → all < clocks_left bus.beam
    → IsMade r (registers_after op mode (past r 2) (byte bus at 1)) bus (gone_on (on_bus bus (byte bus at 1)) all)
branch_made bus r at clocks all op mode h is uses sum few =
    let row : Row = record { op = op; mode = mode } in
    let got = byte bus at 1 in
    let rn = past r 2 in
    let P : Plan → Type 0 = λ p. (l : ℕ) → Looks bus r p l r (done row rn got) got (clocks + branch_clocks op rn got) in
    let same : order row (past r 1) ≡ order_by Use.Branch row (past r 1) = rw uses refl in
    looks_made bus r (registers_after op mode rn got) at clocks (clocks + branch_clocks op rn got) all got row h is.row
    (subst P (sym same) (λ l. looks_then bus r r r _ _ _ l got got clocks (branch_clocks op rn got) _
    (looks_code bus r at clocks 1 r l (λ b q. branch_cycles row q b) h (omega arith))
    (cycles bus r got (taken op rn.p) (leaves_page rn got) (done row rn got)) refl)) (omega (arith, sum)) few

pub jump_made : (bus : BusState) (r : Regs) (at clocks all : ℕ) → HasCode bus r at clocks
    → IsRowAt bus at Jmp Absolute → all ≡ 3 * clocks → all < clocks_left bus.beam
    → IsMade r (registers_after Jmp Absolute (past r 3) (word bus at)) bus (gone_on (on_bus bus (byte bus at 2)) all)
unfolding use_of
jump_made bus r at clocks all h is sum few =
    let row : Row = record { op = Jmp; mode = Absolute } in
    looks_made bus r (registers_after Jmp Absolute (past r 3) (word bus at)) at clocks (2 * clocks) all (byte bus at 2) row h is.row
    (λ l. operand_at bus r at clocks r l OperandKind.Jump no_data row h) (omega (arith, sum)) few
