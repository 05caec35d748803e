-- Instructions that push or pull.
use Rattle.std.proofs.Common.{◌≡◌, ℕ, ◌+◌, ◌*◌, ◌/◌, ◌%◌, ◌<◌, Bool, true, false, slice_index, refl, sym, subst, arith}
use Rattle.cpu_tables.specs.declared.mode.Mode.{Mode}
use Rattle.cpu_tables.specs.declared.mode.Mode.TheVariants.{Absolute}
use Rattle.cpu_tables.specs.declared.opcode.Row.{Row}
use Rattle.cpu_tables.specs.declared.operation.Op.{Op}
use Rattle.cpu_tables.specs.declared.operation.Op.TheVariants.{Jsr, Rts}
use Rattle.cpu_tables.specs.declared.regs.Regs.{Regs}
use Rattle.cpu_alu.specs.Results.{registers_after, operand_written}
use Rattle.cpu_modes.specs.Addresses.{join, is_wide, stack, pulled, pushed}
use Rattle.cpu_modes.specs.Orders.{no_data, push_order, push_word, return_counter, done, order, written_of, pull_high, pull_data, push_low, last_fetched, return_high, after_return}
use Rattle.cpu_modes.specs.Plan.{Plan, idles, writes}
use Rattle.cpu_modes.specs.Uses.{use_of}
use Rattle.cpu_modes.specs.declared.place.Direction.{Direction}
use Rattle.cpu_modes.specs.declared.place.OperandKind.{OperandKind}
use Rattle.cpu_modes.specs.declared.place.ReturnKind.{ReturnKind}
use Rattle.cpu_modes.specs.declared.place.Traffic.{Traffic}
use Rattle.cpu_modes.specs.declared.uses.Use.{Use}
use Rattle.cpu_modes.specs.declared.uses.Width.{Width}
use Rattle.beam.specs.Places.{clocks_left}
use Rattle.console_bus.specs.BusState.{BusState}
use Rattle.console_bus.specs.Memory.{IsMemoryAt, stored}
use Rattle.console_bus.specs.Places.{on_bus}
use Rattle.console_steps.specs.AtOnce.{gone_on}
use Rattle.whole_instructions.specs.Looks.{Makes, Looks}
use Rattle.whole_instructions.specs.Fetching.{HasCode, IsRowAt, IsMade, past}
use Rattle.whole_instructions.proofs.Looks.{stored_keeps, looks_idle, looks_read, looks_then, makes_then, makes_write}
use Rattle.whole_instructions.proofs.Reaching.{byte, word, operand_at}
use Rattle.whole_instructions.proofs.DataReads.{begins, looks_made, wide_past}
use Rattle.whole_instructions.proofs.Writes.{makes_twice, twice_picture, twice_beam}

pull_order : (op : Op) (mode : Mode) (width : Width) (wide : Bool) (r : Regs) → use_of op ≡ Use.Pull width → is_wide width r ≡ wide
    → order (record { op = op; mode = mode }) (past r 1)
    ≡ idles (idles (pull_data (record { direction = Direction.Load; wide = wide }) (record { op = op; mode = mode }) (past r 1)))
pull_order op mode width wide r uses e = rw (uses, wide_past width r 1, e) refl

-- two internal cycles
two_cycles : (bus : BusState) (start : Regs) (last : ℕ) (more : Plan) → Looks bus start (idles (idles more)) last start more last 12
two_cycles bus start last more =
    looks_then bus start start start _ _ _ last last last 6 6 _ (looks_idle bus start last (idles more)) (looks_idle bus start last more) refl

pub narrow_pull : (bus : BusState) (r : Regs) (at clocks place lasts all : ℕ) (op : Op) (mode : Mode) (width : Width)
    → HasCode bus r at clocks → IsRowAt bus at op mode → use_of op ≡ Use.Pull width → is_wide width r ≡ false
    → IsMemoryAt bus.board bus.io.fast (stack (pulled r)) place lasts → all ≡ clocks + 12 + lasts → all < clocks_left bus.beam
    → IsMade r (registers_after op mode (pulled (past r 1)) (slice_index bus.memory place)) bus (gone_on (on_bus bus (slice_index bus.memory place)) all)
narrow_pull bus r at clocks place lasts all op mode width h is uses narrow m sum few =
    let row : Row = record { op = op; mode = mode } in
    let d : Traffic = record { direction = Direction.Load; wide = false } in
    let rn = pulled (past r 1) in
    let got = slice_index bus.memory place in
    let P : Plan → Type 0 = λ p. (l : ℕ) → Looks bus r p l r (done row rn got) got (12 + lasts) in
    looks_made bus r (registers_after op mode rn got) at clocks (12 + lasts) all got row h is.row
    (subst P (sym (pull_order op mode width false r uses narrow)) (λ l.
    looks_then bus r r r _ _ _ l l got 12 lasts _ (two_cycles bus r l (pull_data d row (past r 1)))
    (looks_read bus r (stack rn) place lasts l (λ b. done row rn b) m) refl))
    (omega (arith, sum)) few

pub wide_pull : (bus : BusState) (r : Regs) (at clocks place lasts place' lasts' all : ℕ) (op : Op) (mode : Mode) (width : Width)
    → HasCode bus r at clocks → IsRowAt bus at op mode → use_of op ≡ Use.Pull width → is_wide width r ≡ true
    → IsMemoryAt bus.board bus.io.fast (stack (pulled r)) place lasts
    → IsMemoryAt bus.board bus.io.fast (stack (pulled (pulled r))) place' lasts' → all ≡ clocks + 12 + lasts + lasts' → all < clocks_left bus.beam
    → IsMade r (registers_after op mode (pulled (pulled (past r 1))) (join (slice_index bus.memory place) (slice_index bus.memory place')))
    bus (gone_on (on_bus bus (slice_index bus.memory place')) all)
wide_pull bus r at clocks place lasts place' lasts' all op mode width h is uses wide m m' sum few =
    let row : Row = record { op = op; mode = mode } in
    let d : Traffic = record { direction = Direction.Load; wide = true } in
    let once = pulled (past r 1) in
    let rn = pulled once in
    let low = slice_index bus.memory place in
    let high = slice_index bus.memory place' in
    let P : Plan → Type 0 = λ p. (l : ℕ) → Looks bus r p l r (done row rn (join low high)) high (12 + (lasts + lasts')) in
    looks_made bus r (registers_after op mode rn (join low high)) at clocks (12 + (lasts + lasts')) all high row h is.row
    (subst P (sym (pull_order op mode width true r uses wide)) (λ l.
    looks_then bus r r r _ _ _ l l high 12 (lasts + lasts') _ (two_cycles bus r l (pull_data d row (past r 1)))
    (looks_then bus r r r _ _ _ l low high lasts lasts' _
    (looks_read bus r (stack once) place lasts l (λ b. pull_high row once b) m)
    (looks_read bus r (stack rn) place' lasts' low (λ b. done row rn (join low b)) m') refl) refl))
    (omega (arith, sum)) few

pub return_made : (bus : BusState) (r : Regs) (at clocks place lasts place' lasts' all : ℕ) (mode : Mode)
    → HasCode bus r at clocks → IsRowAt bus at Rts mode
    → IsMemoryAt bus.board bus.io.fast (stack (pulled r)) place lasts
    → IsMemoryAt bus.board bus.io.fast (stack (pulled (pulled r))) place' lasts' → all ≡ clocks + 18 + lasts + lasts' → all < clocks_left bus.beam
    → IsMade r (registers_after Rts mode (pulled (pulled (past r 1))) (join (slice_index bus.memory place) (slice_index bus.memory place')))
    bus (gone_on (on_bus bus (slice_index bus.memory place')) all)
unfolding use_of
return_made bus r at clocks place lasts place' lasts' all mode h is m m' sum few =
    let row : Row = record { op = Rts; mode = mode } in
    let once = pulled (past r 1) in
    let rn = pulled once in
    let low = slice_index bus.memory place in
    let high = slice_index bus.memory place' in
    looks_made bus r (registers_after Rts mode rn (join low high)) at clocks (12 + (lasts + (lasts' + 6))) all high row h is.row
    (λ l.
    looks_then bus r r r _ _ _ l l high 12 (lasts + (lasts' + 6)) _ (two_cycles bus r l (return_counter ReturnKind.Near row (past r 1)))
    (looks_then bus r r r _ _ _ l low high lasts (lasts' + 6) _
    (looks_read bus r (stack once) place lasts l (λ b. return_high ReturnKind.Near row once b) m)
    (looks_then bus r r r _ _ _ low high high lasts' 6 _
    (looks_read bus r (stack rn) place' lasts' low (λ b. after_return ReturnKind.Near row rn (join low b)) m')
    (looks_idle bus r high (done row rn (join low high))) refl) refl) refl)
    (omega (arith, sum)) few

push_orders : (op : Op) (mode : Mode) (width : Width) (wide : Bool) (r : Regs) → use_of op ≡ Use.Push width → is_wide width r ≡ wide
    → order (record { op = op; mode = mode }) (past r 1)
    ≡ push_order (record { direction = Direction.Store; wide = wide }) (record { op = op; mode = mode }) (past r 1) 0
push_orders op mode width wide r uses e = rw (uses, wide_past width r 1, e) refl

pub narrow_push : (bus : BusState) (r : Regs) (at clocks place lasts all v : ℕ) (op : Op) (mode : Mode) (width : Width)
    → HasCode bus r at clocks → IsRowAt bus at op mode → use_of op ≡ Use.Push width → is_wide width r ≡ false
    → IsMemoryAt bus.board bus.io.fast (stack r) place lasts → all ≡ clocks + 6 + lasts → all < clocks_left bus.beam
    → v ≡ operand_written op mode (past r 1) 0 % 256
    → IsMade r (registers_after op mode (pushed (past r 1)) 0) bus (gone_on (on_bus (stored bus place v) v) all)
narrow_push bus r at clocks place lasts all v op mode width h is uses narrow m sum few value =
    let row : Row = record { op = op; mode = mode } in
    let rn = pushed (past r 1) in
    let last = stored bus place v in
    let k = stored_keeps bus place v in
    let P : Plan → Type 0 = λ p. (l : ℕ) → Makes bus r p l last r (done row rn 0) v (6 + lasts) in
    begins bus last r (done row rn 0) at clocks (6 + lasts) all v row h is.row k.picture k.beam
    (subst P (sym (push_orders op mode width false r uses narrow)) (λ l. (
    let Q : ℕ → Type 0 = λ n. Makes bus r (writes (stack r) n (done row rn 0)) l last r (done row rn 0) v lasts in
    makes_then bus bus last r r r _ _ _ l l v 6 lasts _ refl
    (looks_idle bus r l (push_low row (past r 1) (written_of row (past r 1) 0) 0))
    (subst Q value (makes_write bus r (stack r) place v lasts l (done row rn 0) m)) refl)))
    (omega (arith, sum)) few

-- a word that is pushed, its high byte first
pushes_word : (bus : BusState) (start q : Regs) (row : Row) (w operand place lasts place' lasts' l v v' : ℕ)
    → IsMemoryAt bus.board bus.io.fast (stack q) place lasts → IsMemoryAt bus.board bus.io.fast (stack (pushed q)) place' lasts'
    → v ≡ w / 256 % 256 → v' ≡ w % 256
    → Makes bus start (push_word row q w operand) l (stored (stored bus place v) place' v') start (done row (pushed (pushed q)) operand) v' (lasts + lasts')
pushes_word bus start q row w operand place lasts place' lasts' l v v' m m' high low =
    let last = stored (stored bus place v) place' v' in
    let ended = done row (pushed (pushed q)) operand in
    let Q : ℕ → Type 0 = λ n. Makes bus start (writes (stack q) n (writes (stack (pushed q)) v' ended)) l last start ended v' (lasts + lasts') in
    let R : ℕ → Type 0 = λ n. Makes bus start (writes (stack q) (w / 256 % 256) (writes (stack (pushed q)) n ended)) l last start ended v' (lasts + lasts') in
    subst R low (subst Q high (makes_twice bus start (stack q) place v (stack (pushed q)) place' v' lasts lasts' l ended m m'))

pub wide_push : (bus : BusState) (r : Regs) (at clocks place lasts place' lasts' all v v' : ℕ) (op : Op) (mode : Mode) (width : Width)
    → HasCode bus r at clocks → IsRowAt bus at op mode → use_of op ≡ Use.Push width → is_wide width r ≡ true
    → IsMemoryAt bus.board bus.io.fast (stack r) place lasts → IsMemoryAt bus.board bus.io.fast (stack (pushed r)) place' lasts'
    → all ≡ clocks + 6 + lasts + lasts' → all < clocks_left bus.beam
    → v ≡ operand_written op mode (past r 1) 0 / 256 % 256 → v' ≡ operand_written op mode (past r 1) 0 % 256
    → IsMade r (registers_after op mode (pushed (pushed (past r 1))) 0) bus (gone_on (on_bus (stored (stored bus place v) place' v') v') all)
wide_push bus r at clocks place lasts place' lasts' all v v' op mode width h is uses wide m m' sum few high low =
    let row : Row = record { op = op; mode = mode } in
    let r1 = past r 1 in
    let rn = pushed (pushed r1) in
    let w = written_of row r1 0 in
    let last = stored (stored bus place v) place' v' in
    let P : Plan → Type 0 = λ p. (l : ℕ) → Makes bus r p l last r (done row rn 0) v' (6 + (lasts + lasts')) in
    begins bus last r (done row rn 0) at clocks (6 + (lasts + lasts')) all v' row h is.row (twice_picture bus place v place' v') (twice_beam bus place v place' v')
    (subst P (sym (push_orders op mode width true r uses wide)) (λ l.
    makes_then bus bus last r r r _ _ _ l l v' 6 (lasts + lasts') _ refl
    (looks_idle bus r l (push_word row r1 w 0))
    (pushes_word bus r r1 row w 0 place lasts place' lasts' l v v' m m' high low) refl))
    (omega (arith, sum)) few

pub call_made : (bus : BusState) (r : Regs) (at clocks place lasts place' lasts' all v v' : ℕ)
    → HasCode bus r at clocks → IsRowAt bus at Jsr Absolute
    → IsMemoryAt bus.board bus.io.fast (stack r) place lasts → IsMemoryAt bus.board bus.io.fast (stack (pushed r)) place' lasts'
    → all ≡ 3 * clocks + 6 + lasts + lasts' → all < clocks_left bus.beam
    → v ≡ last_fetched (past r 3) / 256 % 256 → v' ≡ last_fetched (past r 3) % 256
    → IsMade r (registers_after Jsr Absolute (pushed (pushed (past r 3))) (word bus at)) bus (gone_on (on_bus (stored (stored bus place v) place' v') v') all)
unfolding use_of
call_made bus r at clocks place lasts place' lasts' all v v' h is m m' sum few high low =
    let row : Row = record { op = Jsr; mode = Absolute } in
    let r3 = past r 3 in
    let last = stored (stored bus place v) place' v' in
    let target = word bus at in
    begins bus last r (done row (pushed (pushed r3)) target) at clocks (2 * clocks + (6 + (lasts + lasts'))) all v' row h is.row
    (twice_picture bus place v place' v') (twice_beam bus place v place' v')
    (λ l.
    makes_then bus bus last r r r _ _ _ l (byte bus at 2) v' (2 * clocks) (6 + (lasts + lasts')) _ refl
    (operand_at bus r at clocks r l OperandKind.Call no_data row h)
    (makes_then bus bus last r r r _ _ _ (byte bus at 2) (byte bus at 2) v' 6 (lasts + lasts') _ refl
    (looks_idle bus r (byte bus at 2) (push_word row r3 (last_fetched r3) target))
    (pushes_word bus r r3 row (last_fetched r3) target place lasts place' lasts' (byte bus at 2) v v' m m' high low) refl) refl)
    (omega (arith, sum)) few
