-- Data that is written, or changed.
use Rattle.std.proofs.Common.{◌≡◌, ℕ, ◌+◌, ◌*◌, ◌/◌, ◌%◌, ◌<◌, Bool, true, false, slice_index, refl, sym, subst, ◌∙◌, arith}
use Rattle.cpu_tables.specs.declared.mode.Mode.{Mode}
use Rattle.cpu_tables.specs.declared.opcode.Row.{Row}
use Rattle.cpu_tables.specs.declared.operation.Op.{Op}
use Rattle.cpu_tables.specs.declared.regs.Regs.{Regs}
use Rattle.cpu_alu.specs.Results.{registers_after, operand_written}
use Rattle.cpu_modes.specs.Addresses.{join, second, is_wide}
use Rattle.cpu_modes.specs.Orders.{by_mode, done, order, change_high, changed, write_low}
use Rattle.cpu_modes.specs.Plan.{Plan, ends, writes}
use Rattle.cpu_modes.specs.Uses.{use_of}
use Rattle.cpu_modes.specs.declared.place.Direction.{Direction}
use Rattle.cpu_modes.specs.declared.place.Reach.{Reach}
use Rattle.cpu_modes.specs.declared.place.Traffic.{Traffic}
use Rattle.cpu_modes.specs.declared.uses.Use.{Use}
use Rattle.cpu_modes.specs.declared.uses.Width.{Width}
use Rattle.beam.specs.Places.{clocks_left}
use Rattle.console_bus.specs.BusState.{BusState}
use Rattle.console_bus.specs.Memory.{IsMemoryAt, stored}
use Rattle.console_bus.specs.Places.{on_bus}
use Rattle.console_steps.specs.AtOnce.{gone_on}
use Rattle.whole_instructions.specs.Looks.{Makes}
use Rattle.whole_instructions.specs.Fetching.{HasCode, IsRowAt, IsMade, Reaches, past}
use Rattle.whole_instructions.proofs.Looks.{Keeps, stored_keeps, looks_idle, looks_read, makes_then, makes_write}
use Rattle.whole_instructions.proofs.Reaching.{byte}
use Rattle.whole_instructions.proofs.DataReads.{begins, wide_past}

-- the memory lies where it lay
pub memory_keeps : (r q : BusState) (addr at clocks : ℕ) → Keeps r q → IsMemoryAt r.board r.io.fast addr at clocks → IsMemoryAt q.board q.io.fast addr at clocks
memory_keeps r q addr at clocks k m = rw (k.board, k.io) m

pub twice_picture : (bus : BusState) (at v at' v' : ℕ) → (stored (stored bus at v) at' v').picture ≡ bus.picture
twice_picture bus at v at' v' = (stored_keeps (stored bus at v) at' v').picture ∙ (stored_keeps bus at v).picture

pub twice_beam : (bus : BusState) (at v at' v' : ℕ) → (stored (stored bus at v) at' v').beam ≡ bus.beam
twice_beam bus at v at' v' = (stored_keeps (stored bus at v) at' v').beam ∙ (stored_keeps bus at v).beam

-- two writes, one after the other
pub makes_twice : (bus : BusState) (start : Regs) (addr at v addr' at' v' c d last : ℕ) (more : Plan) → IsMemoryAt bus.board bus.io.fast addr at c
    → IsMemoryAt bus.board bus.io.fast addr' at' d
    → Makes bus start (writes addr v (writes addr' v' more)) last (stored (stored bus at v) at' v') start more v' (c + d)
makes_twice bus start addr at v addr' at' v' c d last more m m' =
    let k = stored_keeps bus at v in
    makes_then bus (stored bus at v) (stored (stored bus at v) at' v') start start start _ _ _ last v v' c d _ k.picture
    (makes_write bus start addr at v c last (writes addr' v' more) m)
    (makes_write (stored bus at v) start addr' at' v' d v more (memory_keeps bus (stored bus at v) addr' at' d k m')) refl

-- the order of an operation that writes data
store_order : (op : Op) (mode : Mode) (width : Width) (wide : Bool) (r : Regs) → use_of op ≡ Use.Store width → is_wide width r ≡ wide
    → order (record { op = op; mode = mode }) (past r 1) ≡ by_mode mode (record { direction = Direction.Store; wide = wide }) (record { op = op; mode = mode }) (past r 1)
store_order op mode width wide r uses e = rw (uses, wide_past width r 1, e) refl

pub narrow_store : (bus : BusState) (r : Regs) (at clocks before operands to seen place lasts all v : ℕ) (op : Op) (mode : Mode) (reach : Reach) (width : Width)
    → HasCode bus r at clocks → IsRowAt bus at op mode → use_of op ≡ Use.Store width → is_wide width r ≡ false
    → Reaches mode reach bus r (record { direction = Direction.Store; wide = false }) operands before to seen
    → IsMemoryAt bus.board bus.io.fast to place lasts → all ≡ clocks + before + lasts → all < clocks_left bus.beam
    → v ≡ operand_written op mode (past r (operands + 1)) 0 % 256
    → IsMade r (past r (operands + 1)) bus (gone_on (on_bus (stored bus place v) v) all)
narrow_store bus r at clocks before operands to seen place lasts all v op mode reach width h is uses narrow reaches m sum few value =
    let row : Row = record { op = op; mode = mode } in
    let rn = past r (operands + 1) in
    let k = stored_keeps bus place v in
    let P : Plan → Type 0 = λ p. (l : ℕ) → Makes bus r p l (stored bus place v) r (ends rn) v (before + lasts) in
    let Q : ℕ → Type 0 = λ n. Makes bus r (writes to n (ends rn)) seen (stored bus place v) r (ends rn) v lasts in
    begins bus (stored bus place v) r (ends rn) at clocks (before + lasts) all v row h is.row k.picture k.beam
    (subst P (sym (store_order op mode width false r uses narrow)) (λ l.
    makes_then bus bus (stored bus place v) r r r _ _ _ l seen v before lasts _ refl (reaches row r l)
    (subst Q value (makes_write bus r to place v lasts seen (ends rn) m)) refl))
    (omega (arith, sum)) few

pub wide_store : (bus : BusState) (r : Regs) (at clocks before operands to seen place place' lasts all v v' : ℕ) (op : Op) (mode : Mode) (reach : Reach) (width : Width)
    → HasCode bus r at clocks → IsRowAt bus at op mode → use_of op ≡ Use.Store width → is_wide width r ≡ true
    → Reaches mode reach bus r (record { direction = Direction.Store; wide = true }) operands before to seen
    → IsMemoryAt bus.board bus.io.fast to place lasts → IsMemoryAt bus.board bus.io.fast (second reach to) place' lasts
    → all ≡ clocks + before + 2 * lasts → all < clocks_left bus.beam
    → v ≡ operand_written op mode (past r (operands + 1)) 0 % 256 → v' ≡ operand_written op mode (past r (operands + 1)) 0 / 256 % 256
    → IsMade r (past r (operands + 1)) bus (gone_on (on_bus (stored (stored bus place v) place' v') v') all)
wide_store bus r at clocks before operands to seen place place' lasts all v v' op mode reach width h is uses wide reaches m m' sum few low high =
    let row : Row = record { op = op; mode = mode } in
    let rn = past r (operands + 1) in
    let last = stored (stored bus place v) place' v' in
    let P : Plan → Type 0 = λ p. (l : ℕ) → Makes bus r p l last r (ends rn) v' (before + (lasts + lasts)) in
    let Q : ℕ → Type 0 = λ n. Makes bus r (writes to n (writes (second reach to) v' (ends rn))) seen last r (ends rn) v' (lasts + lasts) in
    let R : ℕ → Type 0 = λ n. Makes bus r (writes to (operand_written op mode rn 0 % 256) (writes (second reach to) n (ends rn))) seen last r (ends rn) v' (lasts + lasts) in
    begins bus last r (ends rn) at clocks (before + (lasts + lasts)) all v' row h is.row (twice_picture bus place v place' v') (twice_beam bus place v place' v')
    (subst P (sym (store_order op mode width true r uses wide)) (λ l.
    makes_then bus bus last r r r _ _ _ l seen v' before (lasts + lasts) _ refl (reaches row r l)
    (subst R high (subst Q low (makes_twice bus r to place v (second reach to) place' v' lasts lasts seen (ends rn) m m'))) refl))
    (omega (arith, sum)) few

-- the order of an operation that changes data
change_order : (op : Op) (mode : Mode) (width : Width) (wide : Bool) (r : Regs) → use_of op ≡ Use.Change width → is_wide width r ≡ wide
    → order (record { op = op; mode = mode }) (past r 1) ≡ by_mode mode (record { direction = Direction.Change; wide = wide }) (record { op = op; mode = mode }) (past r 1)
change_order op mode width wide r uses e = rw (uses, wide_past width r 1, e) refl

pub narrow_change : (bus : BusState) (r : Regs) (at clocks before operands to seen place lasts all v : ℕ) (op : Op) (mode : Mode) (reach : Reach) (width : Width)
    → HasCode bus r at clocks → IsRowAt bus at op mode → use_of op ≡ Use.Change width → is_wide width r ≡ false
    → Reaches mode reach bus r (record { direction = Direction.Change; wide = false }) operands before to seen
    → IsMemoryAt bus.board bus.io.fast to place lasts → all ≡ clocks + before + 2 * lasts + 6 → all < clocks_left bus.beam
    → v ≡ operand_written op mode (past r (operands + 1)) (slice_index bus.memory place) % 256
    → IsMade r (registers_after op mode (past r (operands + 1)) (slice_index bus.memory place)) bus (gone_on (on_bus (stored bus place v) v) all)
narrow_change bus r at clocks before operands to seen place lasts all v op mode reach width h is uses narrow reaches m sum few value =
    let row : Row = record { op = op; mode = mode } in
    let d : Traffic = record { direction = Direction.Change; wide = false } in
    let rn = past r (operands + 1) in
    let got = slice_index bus.memory place in
    let last = stored bus place v in
    let k = stored_keeps bus place v in
    let P : Plan → Type 0 = λ p. (l : ℕ) → Makes bus r p l last r (done row rn got) v (before + (lasts + (6 + lasts))) in
    let Q : ℕ → Type 0 = λ n. Makes bus r (writes to n (done row rn got)) got last r (done row rn got) v lasts in
    begins bus last r (done row rn got) at clocks (before + (lasts + (6 + lasts))) all v row h is.row k.picture k.beam
    (subst P (sym (change_order op mode width false r uses narrow)) (λ l.
    makes_then bus bus last r r r _ _ _ l seen v before (lasts + (6 + lasts)) _ refl (reaches row r l)
    (makes_then bus bus last r r r _ _ _ seen got v lasts (6 + lasts) _ refl
    (looks_read bus r to place lasts seen (λ low. changed d reach row rn to low) m)
    (makes_then bus bus last r r r _ _ _ got got v 6 lasts _ refl
    (looks_idle bus r got (write_low row rn to got))
    (subst Q value (makes_write bus r to place v lasts got (done row rn got) m)) refl) refl) refl))
    (omega (arith, sum)) few

pub wide_change : (bus : BusState) (r : Regs) (at clocks before operands to seen place place' lasts all v v' : ℕ) (op : Op) (mode : Mode) (reach : Reach) (width : Width)
    → HasCode bus r at clocks → IsRowAt bus at op mode → use_of op ≡ Use.Change width → is_wide width r ≡ true
    → Reaches mode reach bus r (record { direction = Direction.Change; wide = true }) operands before to seen
    → IsMemoryAt bus.board bus.io.fast to place lasts → IsMemoryAt bus.board bus.io.fast (second reach to) place' lasts
    → all ≡ clocks + before + 4 * lasts + 6 → all < clocks_left bus.beam
    → v ≡ operand_written op mode (past r (operands + 1)) (join (slice_index bus.memory place) (slice_index bus.memory place')) % 256
    → v' ≡ operand_written op mode (past r (operands + 1)) (join (slice_index bus.memory place) (slice_index bus.memory place')) / 256 % 256
    → IsMade r (registers_after op mode (past r (operands + 1)) (join (slice_index bus.memory place) (slice_index bus.memory place')))
    bus (gone_on (on_bus (stored (stored bus place' v') place v) v) all)
wide_change bus r at clocks before operands to seen place place' lasts all v v' op mode reach width h is uses wide reaches m m' sum few low high =
    let row : Row = record { op = op; mode = mode } in
    let d : Traffic = record { direction = Direction.Change; wide = true } in
    let rn = past r (operands + 1) in
    let first = slice_index bus.memory place in
    let next = slice_index bus.memory place' in
    let got = join first next in
    let last = stored (stored bus place' v') place v in
    let P : Plan → Type 0 = λ p. (l : ℕ) → Makes bus r p l last r (done row rn got) v (before + (lasts + (lasts + (6 + (lasts + lasts))))) in
    let Q : ℕ → Type 0 = λ n. Makes bus r (writes (second reach to) n (writes to v (done row rn got))) next last r (done row rn got) v (lasts + lasts) in
    let R : ℕ → Type 0 = λ n. Makes bus r (writes (second reach to) (operand_written op mode rn got / 256 % 256) (writes to n (done row rn got))) next last r (done row rn got) v (lasts + lasts) in
    begins bus last r (done row rn got) at clocks (before + (lasts + (lasts + (6 + (lasts + lasts))))) all v row h is.row
    (twice_picture bus place' v' place v) (twice_beam bus place' v' place v)
    (subst P (sym (change_order op mode width true r uses wide)) (λ l.
    makes_then bus bus last r r r _ _ _ l seen v before _ _ refl (reaches row r l)
    (makes_then bus bus last r r r _ _ _ seen first v lasts _ _ refl
    (looks_read bus r to place lasts seen (λ b. change_high d reach row rn to b) m)
    (makes_then bus bus last r r r _ _ _ first next v lasts _ _ refl
    (looks_read bus r (second reach to) place' lasts first (λ b. changed d reach row rn to (join first b)) m')
    (makes_then bus bus last r r r _ _ _ next next v 6 (lasts + lasts) _ refl
    (looks_idle bus r next (writes (second reach to) (operand_written op mode rn got / 256 % 256) (writes to (operand_written op mode rn got % 256) (done row rn got))))
    (subst R low (subst Q high (makes_twice bus r (second reach to) place' v' to place v lasts lasts next (done row rn got) m' m))) refl) refl) refl) refl))
    (omega (arith, sum)) few
