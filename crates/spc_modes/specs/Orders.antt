-- The accesses of each instruction after its opcode fetch (numbers of cycles: nocash fullsnes, "SNES APU
-- SPC700 CPU Load/Store Commands", "ALU Commands", "Jump/Control Commands"; their order, with each dummy read
-- an internal cycle, is this project's own profile). `r` are the registers as the accesses so far left them.
use Rattle.std.specs.Prelude.{ℕ, zero, suc, Bool, Option, Some, None, ◌+◌, ◌-◌, ◌*◌, ◌/◌, ◌%◌, ◌==◌, not, if◌then◌else◌}
use Rattle.spc_tables.specs.Opcodes.{row_of}
use Rattle.spc_tables.specs.declared.mode.SpcMode.{SpcMode}
use Rattle.spc_tables.specs.declared.mode.SpcMode.TheVariants.{Accumulator, Immediate, Direct, DirectX, DirectY, Absolute, AbsoluteX, AbsoluteY, IndirectX, IndirectXIncrement, DirectXPointer, DirectPointerY, DirectImmediate, DirectDirect, IndirectXIndirectY, DirectBit, DirectBitRelative, MemoryBit, DirectRelative, DirectXRelative, YRelative, AbsoluteXPointer, HighPage, VectorTable}
use Rattle.spc_tables.specs.declared.opcode.SpcRow.{SpcRow}
use Rattle.spc_tables.specs.declared.regs.SpcRegs.{SpcRegs}
use Rattle.spc_alu.specs.Bits.{with_bit_carry, bit_written}
use Rattle.spc_alu.specs.Flow.{taken, taken_by, counted, relative, jump, with_break}
use Rattle.spc_alu.specs.Results.{combined, loaded, changed, changed_by_a, stored, popped, word_loaded, internal}
use Rattle.spc_alu.specs.Words.{low_stepped, word_stepped, after_word_step}
use Rattle.spc_alu.specs.declared.changes.Changed.{Changed}
use Rattle.spc_modes.specs.Addresses.{join, fetched, direct, next_in_page, next_place, indexed, stack, pushed, pulled}
use Rattle.spc_modes.specs.Plan.{Plan, fetches, reads, writes, idles, stops, ends}
use Rattle.spc_modes.specs.Uses.{use_of}
use Rattle.spc_modes.specs.declared.place.PointerKind.{PointerKind}
use Rattle.spc_modes.specs.declared.uses.Use.{Use}

-- an access to the next byte of the program
abbrev pub fetch : SpcRegs → (ℕ → SpcRegs → Plan) → Plan
fetch r more = fetches r.pc (λ byte. more byte (fetched r))

-- an access to the byte that a pull reads
abbrev pub pull : SpcRegs → (ℕ → SpcRegs → Plan) → Plan
pull r more = reads (stack (pulled r)) (λ byte. more byte (pulled r))

-- some internal cycles
abbrev pub idles_for : ℕ → Plan → Plan
idles_for zero more = more
idles_for (suc n) more = idles (idles_for n more)

-- the last write
abbrev pub write_last : SpcRegs → ℕ → ℕ → Plan
write_last r at byte = writes at byte (ends r)

-- a cycle, then the last write
abbrev pub write_slowly : SpcRegs → ℕ → ℕ → Plan
write_slowly r at byte = idles (write_last r at byte)

-- PSW after a change of memory
abbrev pub with_psw : SpcRegs → ℕ → SpcRegs
with_psw r psw' = record r { psw = psw' }

-- DATA AT AN ADDRESS

-- a byte that is read
abbrev pub load : SpcRow → SpcRegs → ℕ → Plan
load row r at = reads at (λ byte. ends (loaded row.op r byte))

-- a byte that is changed, and written back at once
abbrev pub written_back : SpcRegs → ℕ → Changed → Plan
written_back r at c = write_last (with_psw r c.psw) at c.value

abbrev pub change : SpcRow → SpcRegs → ℕ → Plan
change row r at = reads at (λ byte. written_back r at (changed row.op row.mode r.psw byte))

-- TSET1 and TCLR1: there is a cycle before the write
abbrev pub written_back_slowly : SpcRegs → ℕ → Changed → Plan
written_back_slowly r at c = write_slowly (with_psw r c.psw) at c.value

abbrev pub change_by_a : SpcRow → SpcRegs → ℕ → Plan
change_by_a row r at = reads at (λ byte. written_back_slowly r at (changed_by_a row.op r byte))

-- a word that is read: the low byte first
abbrev pub load_word_high : SpcRow → SpcRegs → ℕ → ℕ → Plan
load_word_high row r at low = reads at (λ high. ends (word_loaded row.op r (join low high)))

abbrev pub load_word : SpcRow → SpcRegs → ℕ → Plan
load_word row r at = reads at (λ low. idles (load_word_high row r (next_in_page at) low))

-- CMPW: without a cycle between the bytes
abbrev pub compare_word : SpcRow → SpcRegs → ℕ → Plan
compare_word row r at = reads at (λ low. load_word_high row r (next_in_page at) low)

-- MOVW d,YA: A is written first, then Y
abbrev pub store_word_low : SpcRegs → ℕ → Plan
store_word_low r at = writes at r.a (write_last r (next_in_page at) r.y)

abbrev pub store_word : SpcRegs → ℕ → Plan
store_word r at = idles (store_word_low r at)

-- INCW and DECW: the low byte is written before the high byte is read
abbrev pub step_word_high : SpcRow → SpcRegs → ℕ → ℕ → Plan
step_word_high row r at low =
    reads at (λ high. write_last (after_word_step row.op r (join low high)) at (word_stepped row.op (join low high) / 256))

abbrev pub step_word_low : SpcRow → SpcRegs → ℕ → ℕ → Plan
step_word_low row r at low = writes at (low_stepped row.op low) (step_word_high row r (next_in_page at) low)

abbrev pub step_word : SpcRow → SpcRegs → ℕ → Plan
step_word row r at = reads at (λ low. step_word_low row r at low)

-- by what the operation does; operations without data at an address end there
abbrev pub data_by : Use → SpcRow → SpcRegs → ℕ → Plan
data_by Use.Load row r at = load row r at
data_by Use.Compare row r at = load row r at
data_by Use.Store row r at = write_slowly r at (stored row.op r)
data_by Use.Change row r at = change row r at
data_by Use.ChangeByA row r at = change_by_a row r at
data_by Use.LoadWord row r at = load_word row r at
data_by Use.CompareWord row r at = compare_word row r at
data_by Use.StoreWord row r at = store_word r at
data_by Use.StepWord row r at = step_word row r at
data_by _ row r at = ends r

abbrev pub data_at : SpcRow → SpcRegs → ℕ → Plan
data_at row r at = data_by (use_of row.op) row r at

-- A BIT of the first 8 KiB: its number k, and the address of its byte

abbrev pub bit_end : Use → SpcRow → SpcRegs → ℕ → ℕ → ℕ → Plan
bit_end Use.ReadBitSlowly row r at k byte = idles (ends (with_bit_carry row.op r k byte))
bit_end Use.ChangeBit row r at k byte = write_last r at (bit_written row.op r.psw k byte)
bit_end Use.StoreBit row r at k byte = write_slowly r at (bit_written row.op r.psw k byte)
bit_end _ row r at k byte = ends (with_bit_carry row.op r k byte)

abbrev pub bit_at : SpcRow → SpcRegs → ℕ → ℕ → Plan
bit_at row r at k = reads at (λ byte. bit_end (use_of row.op) row r at k byte)

-- POINTERS of the direct page: [d+X] and [d]+Y

abbrev pub after_pointer : PointerKind → SpcRow → SpcRegs → ℕ → Plan
after_pointer PointerKind.Plain row r word = data_at row r word
after_pointer PointerKind.Y row r word = idles (data_at row r (indexed word r.y))

abbrev pub pointer_high : PointerKind → SpcRow → SpcRegs → ℕ → ℕ → Plan
pointer_high kind row r at low = reads at (λ high. after_pointer kind row r (join low high))

abbrev pub pointer : PointerKind → SpcRow → SpcRegs → ℕ → Plan
pointer kind row r at = reads at (λ low. pointer_high kind row r (next_in_page at) low)

-- (X)+: X grows by 1 at the end

abbrev pub x_grown : SpcRegs → SpcRegs
x_grown r = record r { x = (r.x + 1) % 256 }

abbrev pub increment_load : SpcRow → SpcRegs → ℕ → Plan
increment_load row r at = reads at (λ byte. idles (ends (x_grown (loaded row.op r byte))))

abbrev pub increment_at : Use → SpcRow → SpcRegs → ℕ → Plan
increment_at Use.Store row r at = write_slowly (x_grown r) at (stored row.op r)
increment_at _ row r at = increment_load row r at

-- TWO OPERANDS IN MEMORY: the place that takes the result, and the source byte

-- CMP writes nothing, and has a cycle there
abbrev pub pair_end : Use → SpcRegs → ℕ → Changed → Plan
pair_end Use.Compare r at c = idles (ends (with_psw r c.psw))
pair_end _ r at c = written_back r at c

abbrev pub pair_at : SpcRow → SpcRegs → ℕ → ℕ → Plan
pair_at row r at source = reads at (λ byte. pair_end (use_of row.op) r at (combined row.op r.psw byte source))

-- d,#: MOV has a cycle where the others read
abbrev pub immediate_pair_at : Use → SpcRow → SpcRegs → ℕ → ℕ → Plan
immediate_pair_at Use.Move row r at source = write_slowly r at source
immediate_pair_at _ row r at source = pair_at row r at source

abbrev pub immediate_pair : SpcRow → SpcRegs → ℕ → Plan
immediate_pair row r source = fetch r (λ offset r'. immediate_pair_at (use_of row.op) row r' (direct r' offset) source)

-- d,d: MOV writes where the others read
abbrev pub direct_pair_at : Use → SpcRow → SpcRegs → ℕ → ℕ → Plan
direct_pair_at Use.Move row r at source = write_last r at source
direct_pair_at _ row r at source = pair_at row r at source

abbrev pub direct_pair_place : SpcRow → SpcRegs → ℕ → Plan
direct_pair_place row r source = fetch r (λ offset r'. direct_pair_at (use_of row.op) row r' (direct r' offset) source)

abbrev pub direct_pair : SpcRow → SpcRegs → ℕ → Plan
direct_pair row r at = reads at (λ source. direct_pair_place row r source)

-- (X),(Y): the source at Y is read first
abbrev pub indirect_pair : SpcRow → SpcRegs → ℕ → Plan
indirect_pair row r at = reads at (λ source. pair_at row r (direct r r.x) source)

-- BRANCHES: two cycles where the branch is taken

abbrev pub branched : Bool → SpcRegs → ℕ → Plan
branched is_taken r distance = if is_taken then idles (idles (ends (jump r (relative r.pc distance)))) else ends r

abbrev pub branch : Bool → SpcRegs → Plan
branch is_taken r = fetch r (λ distance r'. branched is_taken r' distance)

-- by a byte of memory: DBNZ writes it back, one less; the others have a cycle
abbrev pub tested : Use → SpcRow → SpcRegs → ℕ → ℕ → Plan
tested Use.Count row r at byte = writes at (counted byte) (branch (taken_by row.op row.mode r.a byte) r)
tested _ row r at byte = idles (branch (taken_by row.op row.mode r.a byte) r)

abbrev pub test : SpcRow → SpcRegs → ℕ → Plan
test row r at = reads at (λ byte. tested (use_of row.op) row r at byte)

-- DBNZ Y
abbrev pub count_y : SpcRegs → Plan
count_y r = idles (idles (branch (not (counted r.y == 0)) (record r { y = counted r.y })))

-- JUMPS by two bytes in memory

abbrev pub target_high : SpcRegs → ℕ → ℕ → Plan
target_high r at low = reads at (λ high. ends (jump r (join low high)))

abbrev pub target : SpcRegs → ℕ → Plan
target r at = reads at (λ low. target_high r (next_place at) low)

-- CALLS push the address after the instruction, its high byte first. `to` is where the program goes on, or for TCALL and BRK
-- where that place stands in memory.

-- BRK pushes PSW too, as it was
abbrev pub break_status : SpcRegs → ℕ → Plan
break_status r to = writes (stack r) r.psw (idles (target (with_break (pushed r)) to))

abbrev pub after_pushes : Use → SpcRegs → ℕ → Plan
after_pushes Use.Call r to = idles (idles (ends (jump r to)))
after_pushes Use.VectorCall r to = idles (target r to)
after_pushes Use.Break r to = break_status r to
after_pushes _ r to = idles (ends (jump r to))

abbrev pub push_low : SpcRow → SpcRegs → ℕ → Plan
push_low row r to = writes (stack r) (r.pc % 256) (after_pushes (use_of row.op) (pushed r) to)

abbrev pub push_high : SpcRow → SpcRegs → ℕ → Plan
push_high row r to = writes (stack r) (r.pc / 256) (push_low row (pushed r) to)

-- OPERANDS of two bytes

-- !a
abbrev pub absolute : Use → SpcRow → SpcRegs → ℕ → Plan
absolute Use.Jump row r word = ends (jump r word)
absolute Use.Call row r word = idles (push_high row r word)
absolute _ row r word = data_at row r word

abbrev pub after_operand : SpcMode → SpcRow → SpcRegs → ℕ → Plan
after_operand Absolute row r word = absolute (use_of row.op) row r word
after_operand AbsoluteX row r word = idles (data_at row r (indexed word r.x))
after_operand AbsoluteY row r word = idles (data_at row r (indexed word r.y))
after_operand MemoryBit row r word = bit_at row r (word % 8192) (word / 8192)
after_operand AbsoluteXPointer row r word = idles (target r (indexed word r.x))
after_operand _ row r word = ends r

abbrev pub operand_high : SpcRow → SpcRegs → ℕ → Plan
operand_high row r low = fetch r (λ high r'. after_operand row.mode row r' (join low high))

-- AFTER THE FIRST BYTE that follows the opcode
abbrev pub after_first : SpcMode → SpcRow → SpcRegs → ℕ → Plan
after_first Immediate row r byte = ends (loaded row.op r byte)
after_first Direct row r byte = data_at row r (direct r byte)
after_first DirectX row r byte = idles (data_at row r (direct r (byte + r.x)))
after_first DirectY row r byte = idles (data_at row r (direct r (byte + r.y)))
after_first (DirectBit k) row r byte = data_at row r (direct r byte)
after_first DirectXPointer row r byte = idles (pointer PointerKind.Plain row r (direct r (byte + r.x)))
after_first DirectPointerY row r byte = pointer PointerKind.Y row r (direct r byte)
after_first DirectImmediate row r byte = immediate_pair row r byte
after_first DirectDirect row r byte = direct_pair row r (direct r byte)
after_first (DirectBitRelative k) row r byte = test row r (direct r byte)
after_first DirectRelative row r byte = test row r (direct r byte)
after_first DirectXRelative row r byte = idles (test row r (direct r (byte + r.x)))
after_first HighPage row r byte = idles (push_high row r (0xFF00 + byte))
after_first _ row r byte = operand_high row r byte

abbrev pub first_byte : SpcRow → SpcRegs → Plan
first_byte row r = fetch r (λ byte r'. after_first row.mode row r' byte)

-- WHERE THE OPERANDS ARE
abbrev pub by_mode : SpcMode → SpcRow → SpcRegs → Plan
by_mode Accumulator row r = idles (ends (internal row.op row.mode r))
by_mode IndirectX row r = idles (data_at row r (direct r r.x))
by_mode IndirectXIncrement row r = idles (increment_at (use_of row.op) row r (direct r r.x))
by_mode IndirectXIndirectY row r = idles (indirect_pair row r (direct r r.y))
by_mode YRelative row r = count_y r
by_mode _ row r = first_byte row r

-- PUSHES AND PULLS of registers
abbrev pub push_register : SpcRegs → ℕ → Plan
push_register r byte = writes (stack r) byte (idles (ends (pushed r)))

abbrev pub pull_register : SpcRow → SpcRegs → Plan
pull_register row r = pull r (λ byte r'. ends (popped row.op r' byte))

-- RETURNS
abbrev pub return_high : SpcRegs → ℕ → Plan
return_high r low = pull r (λ high r'. ends (jump r' (join low high)))

abbrev pub return_counter : SpcRegs → Plan
return_counter r = pull r (λ low r'. return_high r' low)

-- RETI pulls PSW first
abbrev pub return_status : SpcRegs → Plan
return_status r = pull r (λ status r'. return_counter (with_psw r' status))

-- what is pulled, by the operation
abbrev pub pulls : Use → SpcRow → SpcRegs → Plan
pulls Use.Return row r = return_counter r
pulls Use.ReturnInterrupt row r = return_status r
pulls _ row r = pull_register row r

-- THE VECTORS of TCALL, downwards from FFDE, which is also that of BRK
abbrev pub vector : SpcMode → ℕ
vector (VectorTable n) = 0xFFDE - 2 * n
vector _ = 0xFFDE

-- THE OPERATIONS
abbrev pub order_by : Use → SpcRow → SpcRegs → Plan
order_by (Use.Internal cycles) row r = idles_for cycles (ends (internal row.op row.mode r))
order_by Use.Branch row r = branch (taken row.op r.psw) r
order_by Use.VectorCall row r = idles (idles (push_high row r (vector row.mode)))
order_by Use.Break row r = idles (push_high row r 0xFFDE)
order_by Use.Push row r = idles (push_register r (stored row.op r))
order_by Use.Pull row r = idles (idles (pulls Use.Pull row r))
order_by Use.Return row r = idles (idles (pulls Use.Return row r))
order_by Use.ReturnInterrupt row r = idles (idles (pulls Use.ReturnInterrupt row r))
order_by Use.Halt row r = stops
order_by _ row r = by_mode row.mode row r

-- the accesses of a row, after its opcode fetch
abbrev pub order : SpcRow → SpcRegs → Plan
order row r = order_by (use_of row.op) row r

-- a number that is no opcode has no row; no byte is one
abbrev pub order_of_opcode : Option SpcRow → SpcRegs → Plan
order_of_opcode None r = stops
order_of_opcode (Some row) r = order row r

-- an instruction from its opcode fetch on
abbrev pub instruction : SpcRegs → Plan
instruction r = fetch r (λ opcode r'. order_of_opcode (row_of opcode) r')
