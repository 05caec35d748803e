-- Fetches of an instruction's bytes.
use Rattle.std.proofs.Common.{◌≡◌, ℕ, ◌+◌, ◌*◌, ◌%◌, ◌<◌, ◌≤◌, ◌^◌, Bool, true, false, Option, slice_index, if◌then◌else◌, sym, ap, subst, ◌∙◌, arith}
use Rattle.cpu_tables.specs.declared.opcode.Row.{Row}
use Rattle.cpu_tables.specs.declared.regs.Regs.{Regs}
use Rattle.cpu_modes.specs.Addresses.{code, fetched, second}
use Rattle.cpu_modes.specs.declared.place.Reach.{Reach}
use Rattle.cpu_modes.specs.Orders.{fetch, idles_if, order, order_of_opcode}
use Rattle.cpu_modes.specs.Plan.{Plan, ends}
use Rattle.console_bus.specs.BusState.{BusState}
use Rattle.console_bus.specs.Memory.{IsMemoryAt, IsStretch}
use Rattle.whole_instructions.specs.Looks.{Looks}
use Rattle.whole_instructions.specs.Fetching.{HasCode, IsOpcodeOf, past}
use Rattle.whole_instructions.proofs.Looks.{looks_none, looks_fetch, looks_idle, looks_begin}

-- one more byte of the program
past_one : (r : Regs) (k : ℕ) → fetched (past r k) ≡ past r (k + 1)
past_one r k =
    let sum : ((r.pc + k) % 65536 + 1) % 65536 ≡ (r.pc + (k + 1)) % 65536 = omega arith in
    ap (λ (n : ℕ). record r { pc = n }) sum

-- where the byte lies that is fetched past some
code_past : (r : Regs) (k : ℕ) → r.pc + k < 65536 → code (past r k) ≡ code r + k
code_past r k room =
    let same : (r.pc + k) % 65536 ≡ r.pc + k = omega (arith, room) in
    ap (λ (n : ℕ). 65536 * r.pbr + n) same ∙ omega arith

pub byte_past : (bus : BusState) (r : Regs) (at clocks k : ℕ) → HasCode bus r at clocks → k < 4
    → IsMemoryAt bus.board bus.io.fast (code (past r k)) (at + k) clocks
byte_past bus r at clocks k h few =
    let room = h.room in
    let range = h.range in
    let within : code r % 8192 + k < 8192 = omega (arith, room, range, few) in
    let there : code r + k ≡ code (past r k) = sym (code_past r k (omega (arith, room, range, few))) in
    let P : ℕ → Type 0 = λ a. IsMemoryAt bus.board bus.io.fast a (at + k) clocks in
    subst P there (h.stretch.bytes k within)

pub looks_code : (bus : BusState) (r : Regs) (at clocks k : ℕ) (start : Regs) (last : ℕ) (more : ℕ → Regs → Plan) → HasCode bus r at clocks → k < 4
    → Looks bus start (fetch (past r k) more) last start (more (slice_index bus.memory (at + k)) (past r (k + 1))) (slice_index bus.memory (at + k)) clocks
looks_code bus r at clocks k start last more h few =
    let byte = slice_index bus.memory (at + k) in
    let P : Regs → Type 0 = λ x. Looks bus start (fetch (past r k) more) last start (more byte x) byte clocks in
    subst P (past_one r k) (looks_fetch bus start (code (past r k)) (at + k) clocks last (λ b. more b (fetched (past r k))) (byte_past bus r at clocks k h few))

-- a cycle that there is under a condition
pub looks_idle_if : (bus : BusState) (start : Regs) (last : ℕ) (b : Bool) (more : Plan) → Looks bus start (idles_if b more) last start more last (if b then 6 else 0)
looks_idle_if bus start last true more = looks_idle bus start last more
looks_idle_if bus start last false more = looks_none bus start more last

-- the opcode, after an instruction that has ended
pub looks_opcode : (bus : BusState) (r : Regs) (at clocks : ℕ) (start : Regs) (last : ℕ) (row : Row) → HasCode bus r at clocks → IsOpcodeOf bus at row
    → Looks bus start (ends r) last r (order row (past r 1)) (slice_index bus.memory at) clocks
looks_opcode bus r at clocks start last row h is =
    let none : code r + 0 ≡ code r = omega arith in
    let first : at + 0 ≡ at = omega arith in
    let room = h.room in
    let P : ℕ → Type 0 = λ a. IsMemoryAt bus.board bus.io.fast a (at + 0) clocks in
    let Q : ℕ → Type 0 = λ n. IsMemoryAt bus.board bus.io.fast (code r) n clocks in
    let m = subst Q first (subst P none (h.stretch.bytes 0 (omega (arith, room)))) in
    let R : Option Row → Type 0 = λ o. Looks bus start (ends r) last r (order_of_opcode o (past r 1)) (slice_index bus.memory at) clocks in
    subst R is (looks_begin bus start r at clocks last m)

-- the bytes of an instruction are in the memory
pub inside : (bus : BusState) (r : Regs) (at clocks k : ℕ) → HasCode bus r at clocks → k < 4 → at + k < 131072 + bus.board.ram + bus.board.rom
inside bus r at clocks k h few =
    let room = h.room in
    (h.stretch.bytes k (omega (arith, room, few))).inside

pub inside_first : (bus : BusState) (r : Regs) (at clocks : ℕ) → HasCode bus r at clocks → at < 131072 + bus.board.ram + bus.board.rom
inside_first bus r at clocks h =
    let none : at + 0 ≡ at = omega arith in
    let P : ℕ → Type 0 = λ n. n < 131072 + bus.board.ram + bus.board.rom in
    subst P none (inside bus r at clocks 0 h (omega arith))

-- bytes that lie in one page of the memory
pub has_code : (bus : BusState) (r : Regs) (at clocks : ℕ) → IsStretch bus.board bus.io.fast (code r) at clocks → r.pc % 8192 ≤ 8188 → r.pc < 65536 → at < 2 ^ 33 → HasCode bus r at clocks
has_code bus r at clocks stretch room range below = record {
  below = below;
  stretch = stretch;
  room = room;
  range = range;
  few = (stretch.bytes 0 (omega (arith, room))).few;
}

-- the high byte of data whose low byte isn't the last of a page
pub next_byte : (bus : BusState) (reach : Reach) (to at clocks : ℕ) → IsStretch bus.board bus.io.fast to at clocks
    → second reach to ≡ to + 1 → to % 8192 < 8191 → IsMemoryAt bus.board bus.io.fast (second reach to) (at + 1) clocks
next_byte bus reach to at clocks stretch next page =
    let P : ℕ → Type 0 = λ a. IsMemoryAt bus.board bus.io.fast a (at + 1) clocks in
    subst P (sym next) (stretch.bytes 1 (omega (arith, page)))

pub first_byte : (bus : BusState) (to at clocks : ℕ) → IsStretch bus.board bus.io.fast to at clocks → IsMemoryAt bus.board bus.io.fast to at clocks
first_byte bus to at clocks stretch =
    let a : to + 0 ≡ to = omega arith in
    let b : at + 0 ≡ at = omega arith in
    let At : ℕ → Type 0 = λ n. IsMemoryAt bus.board bus.io.fast n (at + 0) clocks in
    let Of : ℕ → Type 0 = λ n. IsMemoryAt bus.board bus.io.fast to n clocks in
    subst Of b (subst At a (stretch.bytes 0 (omega arith)))
