-- What each addressing mode does before its data.
use Rattle.std.proofs.Common.{◌≡◌, ℕ, ◌+◌, ◌*◌, ◌%◌, ◌==◌, not, slice_index, if◌then◌else◌, refl, subst, arith}
use Rattle.cpu_tables.specs.declared.mode.Mode.TheVariants.{Direct, DirectX, DirectY, Absolute, AbsoluteX, AbsoluteY, Long, LongX, StackRelative}
use Rattle.cpu_tables.specs.declared.opcode.Row.{Row}
use Rattle.cpu_tables.specs.declared.regs.Regs.{Regs}
use Rattle.cpu_modes.specs.Addresses.{join, in_bank, indexed, direct, has_index_cycle}
use Rattle.cpu_modes.specs.Orders.{fetch, idles_if, after_offset, operand, operand_high, after_operand, bank_of, after_bank, data_at}
use Rattle.cpu_modes.specs.Plan.{Plan, idles}
use Rattle.cpu_modes.specs.declared.place.BankKind.{BankKind}
use Rattle.cpu_modes.specs.declared.place.DirectKind.{DirectKind}
use Rattle.cpu_modes.specs.declared.place.OperandKind.{OperandKind}
use Rattle.cpu_modes.specs.declared.place.Reach.TheVariants.{NextAddress, NextInBankZero}
use Rattle.cpu_modes.specs.declared.place.Traffic.{Traffic}
use Rattle.console_bus.specs.BusState.{BusState}
use Rattle.whole_instructions.specs.Looks.{Looks}
use Rattle.whole_instructions.specs.Fetching.{HasCode, Reaches, past}
use Rattle.whole_instructions.proofs.Looks.{looks_idle, looks_then}
use Rattle.whole_instructions.proofs.Fetches.{looks_code, looks_idle_if}

abbrev pub byte : BusState → ℕ → ℕ → ℕ
byte bus at k = slice_index bus.memory (at + k)

-- the two operand bytes after an opcode
abbrev pub word : BusState → ℕ → ℕ
word bus at = join (byte bus at 1) (byte bus at 2)

abbrev pub low_clocks : Regs → ℕ
low_clocks r = if not (r.d % 256 == 0) then 6 else 0

-- an offset from the direct register, and the cycle that may follow it
pub offset : (bus : BusState) (r : Regs) (at clocks : ℕ) (start : Regs) (last : ℕ) (more : ℕ → Regs → Plan) → HasCode bus r at clocks
    → Looks bus start (fetch (past r 1) (λ o q. idles_if (not (q.d % 256 == 0)) (more o q))) last
    start (more (byte bus at 1) (past r 2)) (byte bus at 1) (clocks + low_clocks r)
offset bus r at clocks start last more h =
    looks_then bus start start start _ _ _ last (byte bus at 1) (byte bus at 1) clocks (low_clocks r) _
    (looks_code bus r at clocks 1 start last (λ o q. idles_if (not (q.d % 256 == 0)) (more o q)) h (omega arith))
    (looks_idle_if bus start (byte bus at 1) (not (r.d % 256 == 0)) (more (byte bus at 1) (past r 2))) refl

-- two bytes of an operand
pub operand_at : (bus : BusState) (r : Regs) (at clocks : ℕ) (start : Regs) (last : ℕ) (kind : OperandKind) (d : Traffic) (row : Row) → HasCode bus r at clocks
    → Looks bus start (operand kind d row (past r 1)) last
    start (after_operand kind d row (past r 3) (word bus at)) (byte bus at 2) (2 * clocks)
operand_at bus r at clocks start last kind d row h =
    looks_then bus start start start _ _ _ last (byte bus at 1) (byte bus at 2) clocks clocks _
    (looks_code bus r at clocks 1 start last (λ low q. operand_high kind d row q low) h (omega arith))
    (looks_code bus r at clocks 2 start (byte bus at 1) (λ high q. after_operand kind d row q (join (byte bus at 1) high)) h (omega arith))
    (omega arith)

pub reaches_direct : (bus : BusState) (r : Regs) (at clocks : ℕ) (d : Traffic) → HasCode bus r at clocks
    → Reaches Direct NextInBankZero bus r d 1 (clocks + low_clocks r) (direct r (byte bus at 1) 0) (byte bus at 1)
reaches_direct bus r at clocks d h = λ row start last.
    offset bus r at clocks start last (λ o q. after_offset DirectKind.Plain d row q o) h

-- .. with an index, and a cycle for it
pub offset_indexed : (bus : BusState) (r : Regs) (at clocks : ℕ) (start : Regs) (last : ℕ) (more : ℕ → Regs → Plan) → HasCode bus r at clocks
    → Looks bus start (fetch (past r 1) (λ o q. idles_if (not (q.d % 256 == 0)) (idles (more o q)))) last
    start (more (byte bus at 1) (past r 2)) (byte bus at 1) (clocks + low_clocks r + 6)
offset_indexed bus r at clocks start last more h =
    looks_then bus start start start _ _ _ last (byte bus at 1) (byte bus at 1) (clocks + low_clocks r) 6 _
    (offset bus r at clocks start last (λ o q. idles (more o q)) h)
    (looks_idle bus start (byte bus at 1) (more (byte bus at 1) (past r 2))) refl

pub reaches_direct_x : (bus : BusState) (r : Regs) (at clocks : ℕ) (d : Traffic) → HasCode bus r at clocks
    → Reaches DirectX NextInBankZero bus r d 1 (clocks + low_clocks r + 6) (direct r (byte bus at 1) r.x) (byte bus at 1)
reaches_direct_x bus r at clocks d h = λ row start last.
    offset_indexed bus r at clocks start last (λ o q. data_at d NextInBankZero row q (direct q o q.x)) h

pub reaches_direct_y : (bus : BusState) (r : Regs) (at clocks : ℕ) (d : Traffic) → HasCode bus r at clocks
    → Reaches DirectY NextInBankZero bus r d 1 (clocks + low_clocks r + 6) (direct r (byte bus at 1) r.y) (byte bus at 1)
reaches_direct_y bus r at clocks d h = λ row start last.
    offset_indexed bus r at clocks start last (λ o q. data_at d NextInBankZero row q (direct q o q.y)) h

pub reaches_absolute : (bus : BusState) (r : Regs) (at clocks : ℕ) (d : Traffic) → HasCode bus r at clocks
    → Reaches Absolute NextAddress bus r d 2 (2 * clocks) (in_bank r.dbr (word bus at)) (byte bus at 2)
reaches_absolute bus r at clocks d h = λ row start last. operand_at bus r at clocks start last OperandKind.Plain d row h

abbrev pub index_clocks : Traffic → Regs → ℕ → ℕ → ℕ
index_clocks d r at index = if has_index_cycle d r at index then 6 else 0

pub reaches_absolute_x : (bus : BusState) (r : Regs) (at clocks : ℕ) (d : Traffic) → HasCode bus r at clocks
    → Reaches AbsoluteX NextAddress bus r d 2 (2 * clocks + index_clocks d r (in_bank r.dbr (word bus at)) r.x)
    (indexed (in_bank r.dbr (word bus at)) r.x) (byte bus at 2)
reaches_absolute_x bus r at clocks d h = λ row start last.
    let base = in_bank r.dbr (word bus at) in
    looks_then bus start start start _ _ _ last (byte bus at 2) (byte bus at 2) (2 * clocks) (index_clocks d r base r.x) _
    (operand_at bus r at clocks start last OperandKind.X d row h)
    (looks_idle_if bus start (byte bus at 2) (has_index_cycle d r base r.x) (data_at d NextAddress row (past r 3) (indexed base r.x))) refl

pub reaches_absolute_y : (bus : BusState) (r : Regs) (at clocks : ℕ) (d : Traffic) → HasCode bus r at clocks
    → Reaches AbsoluteY NextAddress bus r d 2 (2 * clocks + index_clocks d r (in_bank r.dbr (word bus at)) r.y)
    (indexed (in_bank r.dbr (word bus at)) r.y) (byte bus at 2)
reaches_absolute_y bus r at clocks d h = λ row start last.
    let base = in_bank r.dbr (word bus at) in
    looks_then bus start start start _ _ _ last (byte bus at 2) (byte bus at 2) (2 * clocks) (index_clocks d r base r.y) _
    (operand_at bus r at clocks start last OperandKind.Y d row h)
    (looks_idle_if bus start (byte bus at 2) (has_index_cycle d r base r.y) (data_at d NextAddress row (past r 3) (indexed base r.y))) refl

-- three bytes of an operand
bank_at : (bus : BusState) (r : Regs) (at clocks : ℕ) (start : Regs) (last : ℕ) (kind : OperandKind) (bank : BankKind) (d : Traffic) (row : Row)
    → HasCode bus r at clocks → after_operand kind d row (past r 3) (word bus at) ≡ bank_of bank d row (past r 3) (word bus at)
    → Looks bus start (operand kind d row (past r 1)) last
    start (after_bank bank d row (past r 4) (word bus at) (byte bus at 3)) (byte bus at 3) (3 * clocks)
bank_at bus r at clocks start last kind bank d row h is =
    let P : Plan → Type 0 = λ p. Looks bus start (operand kind d row (past r 1)) last start p (byte bus at 2) (2 * clocks) in
    looks_then bus start start start _ _ _ last (byte bus at 2) (byte bus at 3) (2 * clocks) clocks _
    (subst P is (operand_at bus r at clocks start last kind d row h))
    (looks_code bus r at clocks 3 start (byte bus at 2) (λ b q. after_bank bank d row q (word bus at) b) h (omega arith))
    (omega arith)

pub reaches_long : (bus : BusState) (r : Regs) (at clocks : ℕ) (d : Traffic) → HasCode bus r at clocks
    → Reaches Long NextAddress bus r d 3 (3 * clocks) (in_bank (byte bus at 3) (word bus at)) (byte bus at 3)
reaches_long bus r at clocks d h = λ row start last. bank_at bus r at clocks start last OperandKind.Long BankKind.Plain d row h refl

pub reaches_long_x : (bus : BusState) (r : Regs) (at clocks : ℕ) (d : Traffic) → HasCode bus r at clocks
    → Reaches LongX NextAddress bus r d 3 (3 * clocks) (indexed (in_bank (byte bus at 3) (word bus at)) r.x) (byte bus at 3)
reaches_long_x bus r at clocks d h = λ row start last. bank_at bus r at clocks start last OperandKind.LongX BankKind.X d row h refl

pub reaches_stack : (bus : BusState) (r : Regs) (at clocks : ℕ) (d : Traffic) → HasCode bus r at clocks
    → Reaches StackRelative NextInBankZero bus r d 1 (clocks + 6) ((r.s + byte bus at 1) % 65536) (byte bus at 1)
reaches_stack bus r at clocks d h = λ row start last.
    looks_then bus start start start _ _ _ last (byte bus at 1) (byte bus at 1) clocks 6 _
    (looks_code bus r at clocks 1 start last (λ o q. idles (data_at d NextInBankZero row q ((q.s + o) % 65536))) h (omega arith))
    (looks_idle bus start (byte bus at 1) (data_at d NextInBankZero row (past r 2) ((r.s + byte bus at 1) % 65536))) refl
