-- What each addressing mode with a pointer does before its data.
use Rattle.std.proofs.Common.{◌≡◌, ℕ, ◌+◌, ◌*◌, ◌%◌, refl, subst, arith}
use Rattle.cpu_tables.specs.declared.mode.Mode.TheVariants.{DirectPointer, DirectXPointer, DirectPointerY, DirectLongPointer, DirectLongPointerY, StackPointerY}
use Rattle.cpu_tables.specs.declared.opcode.Row.{Row}
use Rattle.cpu_tables.specs.declared.regs.Regs.{Regs}
use Rattle.cpu_modes.specs.Addresses.{join, in_bank, indexed, direct, direct_always, has_index_cycle}
use Rattle.cpu_modes.specs.Orders.{after_offset, after_pointer, data_at, idles_if, pointer, pointer_high, pointer_next}
use Rattle.cpu_modes.specs.Plan.{Plan, idles, reads}
use Rattle.cpu_modes.specs.declared.place.DirectKind.{DirectKind}
use Rattle.cpu_modes.specs.declared.place.PointerKind.{PointerKind}
use Rattle.cpu_modes.specs.declared.place.Reach.TheVariants.{NextAddress}
use Rattle.cpu_modes.specs.declared.place.Traffic.{Traffic}
use Rattle.console_bus.specs.BusState.{BusState}
use Rattle.whole_instructions.specs.Looks.{Looks}
use Rattle.whole_instructions.specs.Fetching.{HasCode, IsByteAt, IsPointer, Reaches, past}
use Rattle.whole_instructions.proofs.Looks.{looks_idle, looks_read, looks_then}
use Rattle.whole_instructions.proofs.Fetches.{looks_code, looks_idle_if}
use Rattle.whole_instructions.proofs.Reaching.{byte, low_clocks, index_clocks, offset, offset_indexed}

-- a byte that is read
looks_byte : (bus : BusState) (start : Regs) (addr got clocks last : ℕ) (more : ℕ → Plan) → IsByteAt bus addr got clocks
    → Looks bus start (reads addr more) last start (more got) got clocks
looks_byte bus start addr got clocks last more b =
    rw b.is (looks_read bus start addr b.at clocks last more b.memory)

-- the third byte of a pointer
third : (bus : BusState) (place bank lasts : ℕ) → IsByteAt bus ((place + 2) % 65536) bank lasts
    → IsByteAt bus (((place + 1) % 65536 + 1) % 65536) bank lasts
third bus place bank lasts b =
    let same : (place + 2) % 65536 ≡ ((place + 1) % 65536 + 1) % 65536 = omega arith in
    let P : ℕ → Type 0 = λ a. IsByteAt bus a bank lasts in
    subst P same b

-- where a pointer's second byte is does not depend on the program counter
next_past : (kind : PointerKind) (r : Regs) (to : ℕ) → pointer_next kind (past r 2) to ≡ pointer_next kind r to
next_past PointerKind.Plain r to = refl
next_past PointerKind.Y r to = refl
next_past PointerKind.StackY r to = refl
next_past PointerKind.Long r to = refl
next_past PointerKind.LongY r to = refl
next_past PointerKind.Pushed r to = refl

at_past : (kind : PointerKind) (bus : BusState) (r : Regs) (to word last clocks : ℕ) → IsPointer kind bus r to word last clocks
    → IsPointer kind bus (past r 2) to word last clocks
at_past kind bus r to word last clocks p = record {
  low = p.low;
  lasts = p.lasts;
  lasts' = p.lasts';
  first = p.first;
  second = rw (next_past kind r to) p.second;
  word_is = p.word_is;
  clocks_are = p.clocks_are;
}

-- a pointer
looks_pointer : (bus : BusState) (start : Regs) (last : ℕ) (kind : PointerKind) (d : Traffic) (row : Row) (q : Regs) (to word high clocks : ℕ)
    → IsPointer kind bus q to word high clocks
    → Looks bus start (pointer kind d row q to) last start (after_pointer kind d row q (pointer_next kind q to) word) high clocks
looks_pointer bus start last kind d row q to word high clocks p =
    let next = pointer_next kind q to in
    rw (p.word_is, p.clocks_are)
    (looks_then bus start start start _ _ _ last p.low high p.lasts p.lasts' _
    (looks_byte bus start to p.low p.lasts last (λ b. pointer_high kind d row q next b) p.first)
    (looks_byte bus start next high p.lasts' p.low (λ b. after_pointer kind d row q next (join p.low b)) p.second) refl)

pub reaches_pointer : (bus : BusState) (r : Regs) (at clocks word last more : ℕ) (d : Traffic) → HasCode bus r at clocks
    → IsPointer PointerKind.Plain bus r (direct r (byte bus at 1) 0) word last more
    → Reaches DirectPointer NextAddress bus r d 1 (clocks + low_clocks r + more) (in_bank r.dbr word) last
reaches_pointer bus r at clocks word last more d h p = λ row start k.
    looks_then bus start start start _ _ _ k (byte bus at 1) last (clocks + low_clocks r) more _
    (offset bus r at clocks start k (λ o q. after_offset DirectKind.Pointer d row q o) h)
    (looks_pointer bus start (byte bus at 1) PointerKind.Plain d row (past r 2) (direct r (byte bus at 1) 0) word last more (at_past PointerKind.Plain bus r _ word last more p)) refl

pub reaches_x_pointer : (bus : BusState) (r : Regs) (at clocks word last more : ℕ) (d : Traffic) → HasCode bus r at clocks
    → IsPointer PointerKind.Plain bus r (direct r (byte bus at 1) r.x) word last more
    → Reaches DirectXPointer NextAddress bus r d 1 (clocks + low_clocks r + 6 + more) (in_bank r.dbr word) last
reaches_x_pointer bus r at clocks word last more d h p = λ row start k.
    looks_then bus start start start _ _ _ k (byte bus at 1) last (clocks + low_clocks r + 6) more _
    (offset_indexed bus r at clocks start k (λ o q. pointer PointerKind.Plain d row q (direct q o q.x)) h)
    (looks_pointer bus start (byte bus at 1) PointerKind.Plain d row (past r 2) (direct r (byte bus at 1) r.x) word last more (at_past PointerKind.Plain bus r _ word last more p)) refl

pub reaches_pointer_y : (bus : BusState) (r : Regs) (at clocks word last more : ℕ) (d : Traffic) → HasCode bus r at clocks
    → IsPointer PointerKind.Y bus r (direct r (byte bus at 1) 0) word last more
    → Reaches DirectPointerY NextAddress bus r d 1 (clocks + low_clocks r + more + index_clocks d r (in_bank r.dbr word) r.y)
    (indexed (in_bank r.dbr word) r.y) last
reaches_pointer_y bus r at clocks word last more d h p = λ row start k.
    let base = in_bank r.dbr word in
    looks_then bus start start start _ _ _ k last last (clocks + low_clocks r + more) (index_clocks d r base r.y) _
    (looks_then bus start start start _ _ _ k (byte bus at 1) last (clocks + low_clocks r) more _
    (offset bus r at clocks start k (λ o q. after_offset DirectKind.PointerY d row q o) h)
    (looks_pointer bus start (byte bus at 1) PointerKind.Y d row (past r 2) (direct r (byte bus at 1) 0) word last more (at_past PointerKind.Y bus r _ word last more p)) refl)
    (looks_idle_if bus start last (has_index_cycle d r base r.y) (data_at d NextAddress row (past r 2) (indexed base r.y))) refl

pub reaches_long_pointer : (bus : BusState) (r : Regs) (at clocks word last more bank lasts : ℕ) (d : Traffic) → HasCode bus r at clocks
    → IsPointer PointerKind.Long bus r (direct_always r (byte bus at 1)) word last more
    → IsByteAt bus ((direct_always r (byte bus at 1) + 2) % 65536) bank lasts
    → Reaches DirectLongPointer NextAddress bus r d 1 (clocks + low_clocks r + more + lasts) (in_bank bank word) bank
reaches_long_pointer bus r at clocks word last more bank lasts d h p b = λ row start k.
    let place = direct_always r (byte bus at 1) in
    looks_then bus start start start _ _ _ k last bank (clocks + low_clocks r + more) lasts _
    (looks_then bus start start start _ _ _ k (byte bus at 1) last (clocks + low_clocks r) more _
    (offset bus r at clocks start k (λ o q. after_offset DirectKind.LongPointer d row q o) h)
    (looks_pointer bus start (byte bus at 1) PointerKind.Long d row (past r 2) place word last more (at_past PointerKind.Long bus r _ word last more p)) refl)
    (looks_byte bus start (((place + 1) % 65536 + 1) % 65536) bank lasts last (λ x. data_at d NextAddress row (past r 2) (in_bank x word)) (third bus place bank lasts b)) refl

pub reaches_long_pointer_y : (bus : BusState) (r : Regs) (at clocks word last more bank lasts : ℕ) (d : Traffic) → HasCode bus r at clocks
    → IsPointer PointerKind.LongY bus r (direct_always r (byte bus at 1)) word last more
    → IsByteAt bus ((direct_always r (byte bus at 1) + 2) % 65536) bank lasts
    → Reaches DirectLongPointerY NextAddress bus r d 1 (clocks + low_clocks r + more + lasts) (indexed (in_bank bank word) r.y) bank
reaches_long_pointer_y bus r at clocks word last more bank lasts d h p b = λ row start k.
    let place = direct_always r (byte bus at 1) in
    looks_then bus start start start _ _ _ k last bank (clocks + low_clocks r + more) lasts _
    (looks_then bus start start start _ _ _ k (byte bus at 1) last (clocks + low_clocks r) more _
    (offset bus r at clocks start k (λ o q. after_offset DirectKind.LongPointerY d row q o) h)
    (looks_pointer bus start (byte bus at 1) PointerKind.LongY d row (past r 2) place word last more (at_past PointerKind.LongY bus r _ word last more p)) refl)
    (looks_byte bus start (((place + 1) % 65536 + 1) % 65536) bank lasts last (λ x. data_at d NextAddress row (past r 2) (indexed (in_bank x word) r.y)) (third bus place bank lasts b)) refl

pub reaches_stack_pointer : (bus : BusState) (r : Regs) (at clocks word last more : ℕ) (d : Traffic) → HasCode bus r at clocks
    → IsPointer PointerKind.StackY bus r ((r.s + byte bus at 1) % 65536) word last more
    → Reaches StackPointerY NextAddress bus r d 1 (clocks + 6 + more + 6) (indexed (in_bank r.dbr word) r.y) last
reaches_stack_pointer bus r at clocks word last more d h p = λ row start k.
    let place = (r.s + byte bus at 1) % 65536 in
    looks_then bus start start start _ _ _ k last last (clocks + 6 + more) 6 _
    (looks_then bus start start start _ _ _ k (byte bus at 1) last (clocks + 6) more _
    (looks_then bus start start start _ _ _ k (byte bus at 1) (byte bus at 1) clocks 6 _
    (looks_code bus r at clocks 1 start k (λ o q. idles (pointer PointerKind.StackY d row q ((q.s + o) % 65536))) h (omega arith))
    (looks_idle bus start (byte bus at 1) (pointer PointerKind.StackY d row (past r 2) place)) refl)
    (looks_pointer bus start (byte bus at 1) PointerKind.StackY d row (past r 2) place word last more (at_past PointerKind.StackY bus r _ word last more p)) refl)
    (looks_idle bus start last (data_at d NextAddress row (past r 2) (indexed (in_bank r.dbr word) r.y))) refl
