-- The accesses of each instruction after its opcode fetch, and the interrupt vectors (after the W65C816S data
-- sheet, tables of cycle-by-cycle operation, interrupt vectors; the order is this project's own profile). `r`
-- are the registers as the accesses so far left them.
use Rattle.std.specs.Prelude.{ℕ, Bool, false, Option, Some, None, ◌+◌, ◌/◌, ◌%◌, ◌==◌, ◌&&◌, not, if◌then◌else◌}
use Rattle.cpu_tables.specs.Opcodes.{row_of}
use Rattle.cpu_tables.specs.declared.mode.Mode.{Mode}
use Rattle.cpu_tables.specs.declared.mode.Mode.TheVariants.{Immediate, Direct, DirectX, DirectY, DirectPointer, DirectXPointer, DirectPointerY, DirectLongPointer, DirectLongPointerY, Absolute, AbsoluteX, AbsoluteY, Long, LongX, StackRelative, StackPointerY, AbsolutePointer, AbsoluteXPointer, AbsoluteLongPointer, Relative, RelativeLong, Accumulator, Implied, Stack, BlockMove}
use Rattle.cpu_tables.specs.declared.opcode.Row.{Row}
use Rattle.cpu_tables.specs.declared.regs.Regs.{Regs}
use Rattle.cpu_alu.specs.Flow.{taken, relative}
use Rattle.cpu_alu.specs.Registers.{pushed_status}
use Rattle.cpu_alu.specs.Results.{registers_after, operand_written}
use Rattle.cpu_modes.specs.Addresses.{join, in_bank, next_in_bank, indexed, code, fetched, direct, direct_always, direct_next, second, stack, pushed, pulled, is_wide, has_index_cycle}
use Rattle.cpu_modes.specs.Plan.{Plan, fetches, reads, writes, idles, waits, stops, ends}
use Rattle.cpu_modes.specs.Uses.{use_of}
use Rattle.cpu_modes.specs.declared.place.BankKind.{BankKind}
use Rattle.cpu_modes.specs.declared.place.Traffic.{Traffic}
use Rattle.cpu_modes.specs.declared.place.Direction.{Direction}
use Rattle.cpu_modes.specs.declared.place.DirectKind.{DirectKind}
use Rattle.cpu_modes.specs.declared.place.OperandKind.{OperandKind}
use Rattle.cpu_modes.specs.declared.place.PointerKind.{PointerKind}
use Rattle.cpu_modes.specs.declared.place.Reach.{Reach}
use Rattle.cpu_modes.specs.declared.place.Reach.TheVariants.{NextAddress, NextInBankZero}
use Rattle.cpu_modes.specs.declared.place.ReturnKind.{ReturnKind}
use Rattle.cpu_modes.specs.declared.place.TargetKind.{TargetKind}
use Rattle.cpu_modes.specs.declared.uses.Cause.{Cause}
use Rattle.cpu_modes.specs.declared.uses.Use.{Use}
use Rattle.cpu_modes.specs.declared.uses.Width.{Width}

-- an access to the next byte of the program
abbrev pub fetch : Regs → (ℕ → Regs → Plan) → Plan
fetch r more = fetches (code r) (λ byte. more byte (fetched r))

-- an access to the byte that a pull reads
abbrev pub pull : Regs → (ℕ → Regs → Plan) → Plan
pull r more = reads (stack (pulled r)) (λ byte. more byte (pulled r))

-- the registers that an operation makes of those that the accesses left and an operand
abbrev pub result_of : Row → Regs → ℕ → Regs
result_of row r word = registers_after row.op row.mode r word

-- the operand that it writes
abbrev pub written_of : Row → Regs → ℕ → ℕ
written_of row r word = operand_written row.op row.mode r word

-- the end: the registers are those of the results, from those that the accesses left and an operand
abbrev pub done : Row → Regs → ℕ → Plan
done row r operand = ends (result_of row r operand)

-- a cycle that there is under a condition
abbrev pub idles_if : Bool → Plan → Plan
idles_if there more = if there then idles more else more

-- THE DATA: one access for 8 bits; for 16 the low byte, then the high byte

abbrev pub load_high : Row → Regs → ℕ → ℕ → Plan
load_high row r at low = reads at (λ high. done row r (join low high))

abbrev pub load : Traffic → Reach → Row → Regs → ℕ → Plan
load d reach row r at = reads at (λ low. if d.wide then load_high row r (second reach at) low else done row r low)

-- a store changes no register
abbrev pub store_high : Regs → ℕ → ℕ → Plan
store_high r at word = writes at (word / 256 % 256) (ends r)

abbrev pub store : Traffic → Reach → Regs → ℕ → ℕ → Plan
store d reach r at word = writes at (word % 256) (if d.wide then store_high r (second reach at) word else ends r)

-- changed data is written back with its high byte first
abbrev pub write_low : Row → Regs → ℕ → ℕ → Plan
write_low row r at word = writes at (written_of row r word % 256) (done row r word)

abbrev pub write_high : Reach → Row → Regs → ℕ → ℕ → Plan
write_high reach row r at word = writes (second reach at) (written_of row r word / 256 % 256) (write_low row r at word)

abbrev pub write_back : Traffic → Reach → Row → Regs → ℕ → ℕ → Plan
write_back d reach row r at word = if d.wide then write_high reach row r at word else write_low row r at word

abbrev pub changed : Traffic → Reach → Row → Regs → ℕ → ℕ → Plan
changed d reach row r at word = idles (write_back d reach row r at word)

abbrev pub change_high : Traffic → Reach → Row → Regs → ℕ → ℕ → Plan
change_high d reach row r at low = reads (second reach at) (λ high. changed d reach row r at (join low high))

abbrev pub change : Traffic → Reach → Row → Regs → ℕ → Plan
change d reach row r at = reads at (λ low. if d.wide then change_high d reach row r at low else changed d reach row r at low)

abbrev pub directed : Direction → Traffic → Reach → Row → Regs → ℕ → Plan
directed Direction.Load d reach row r at = load d reach row r at
directed Direction.Store d reach row r at = store d reach r at (written_of row r 0)
directed Direction.Change d reach row r at = change d reach row r at

-- data at an address
abbrev pub data_at : Traffic → Reach → Row → Regs → ℕ → Plan
data_at d reach row r at = directed d.direction d reach row r at

-- data at an address and an index, maybe after a cycle
abbrev pub data_indexed : Traffic → Row → Regs → ℕ → ℕ → Plan
data_indexed d row r at index = idles_if (has_index_cycle d r at index) (data_at d NextAddress row r (indexed at index))

-- PUSHES: the high byte first

abbrev pub push_low : Row → Regs → ℕ → ℕ → Plan
push_low row r word operand = writes (stack r) (word % 256) (done row (pushed r) operand)

abbrev pub push_word : Row → Regs → ℕ → ℕ → Plan
push_word row r word operand = writes (stack r) (word / 256 % 256) (push_low row (pushed r) word operand)

-- data that is pushed: one byte or two
abbrev pub push_data : Traffic → Row → Regs → ℕ → ℕ → Plan
push_data d row r word operand = if d.wide then push_word row r word operand else push_low row r word operand

-- a cycle, then what the operation writes is pushed
abbrev pub push_order : Traffic → Row → Regs → ℕ → Plan
push_order d row r operand = idles (push_data d row r (written_of row r operand) operand)

-- TARGETS of jumps, two bytes or three, inside one bank

abbrev pub after_target : TargetKind → Row → Regs → ℕ → ℕ → Plan
after_target TargetKind.Near row r at word = done row r word
after_target TargetKind.Far row r at word = reads (next_in_bank at) (λ bank. done row (record r { pbr = bank }) word)

abbrev pub target_high : TargetKind → Row → Regs → ℕ → ℕ → Plan
target_high kind row r at low = reads at (λ high. after_target kind row r at (join low high))

abbrev pub target : TargetKind → Row → Regs → ℕ → Plan
target kind row r at = reads at (λ low. target_high kind row r (next_in_bank at) low)

-- THE DIRECT PAGE: an offset, and a cycle where the low byte of the direct register isn't 0

-- the place of a pointer's second byte
abbrev pub pointer_next : PointerKind → Regs → ℕ → ℕ
pointer_next PointerKind.Plain r at = direct_next r at
pointer_next PointerKind.Y r at = direct_next r at
pointer_next PointerKind.StackY r at = (at + 1) % 65536
pointer_next PointerKind.Long r at = (at + 1) % 65536
pointer_next PointerKind.LongY r at = (at + 1) % 65536
pointer_next PointerKind.Pushed r at = (at + 1) % 65536

abbrev pub after_pointer : PointerKind → Traffic → Row → Regs → ℕ → ℕ → Plan
after_pointer PointerKind.Plain d row r at word = data_at d NextAddress row r (in_bank r.dbr word)
after_pointer PointerKind.Y d row r at word = data_indexed d row r (in_bank r.dbr word) r.y
after_pointer PointerKind.StackY d row r at word = idles (data_at d NextAddress row r (indexed (in_bank r.dbr word) r.y))
after_pointer PointerKind.Long d row r at word = reads ((at + 1) % 65536) (λ bank. data_at d NextAddress row r (in_bank bank word))
after_pointer PointerKind.LongY d row r at word = reads ((at + 1) % 65536) (λ bank. data_at d NextAddress row r (indexed (in_bank bank word) r.y))
after_pointer PointerKind.Pushed d row r at word = push_word row r word word

abbrev pub pointer_high : PointerKind → Traffic → Row → Regs → ℕ → ℕ → Plan
pointer_high kind d row r at low = reads at (λ high. after_pointer kind d row r at (join low high))

abbrev pub pointer : PointerKind → Traffic → Row → Regs → ℕ → Plan
pointer kind d row r at = reads at (λ low. pointer_high kind d row r (pointer_next kind r at) low)

abbrev pub after_offset : DirectKind → Traffic → Row → Regs → ℕ → Plan
after_offset DirectKind.Plain d row r offset = data_at d NextInBankZero row r (direct r offset 0)
after_offset DirectKind.X d row r offset = idles (data_at d NextInBankZero row r (direct r offset r.x))
after_offset DirectKind.Y d row r offset = idles (data_at d NextInBankZero row r (direct r offset r.y))
after_offset DirectKind.Pointer d row r offset = pointer PointerKind.Plain d row r (direct r offset 0)
after_offset DirectKind.XPointer d row r offset = idles (pointer PointerKind.Plain d row r (direct r offset r.x))
after_offset DirectKind.PointerY d row r offset = pointer PointerKind.Y d row r (direct r offset 0)
after_offset DirectKind.LongPointer d row r offset = pointer PointerKind.Long d row r (direct_always r offset)
after_offset DirectKind.LongPointerY d row r offset = pointer PointerKind.LongY d row r (direct_always r offset)
after_offset DirectKind.Pushed d row r offset = pointer PointerKind.Pushed d row r (direct_always r offset)

abbrev pub direct_order : DirectKind → Traffic → Row → Regs → Plan
direct_order kind d row r = fetch r (λ offset r'. idles_if (not (r'.d % 256 == 0)) (after_offset kind d row r' offset))

-- THE STACK as a page: an offset, then a cycle

abbrev pub stack_data : Traffic → Row → Regs → Plan
stack_data d row r = fetch r (λ offset r'. idles (data_at d NextInBankZero row r' ((r'.s + offset) % 65536)))

abbrev pub stack_pointer : Traffic → Row → Regs → Plan
stack_pointer d row r = fetch r (λ offset r'. idles (pointer PointerKind.StackY d row r' ((r'.s + offset) % 65536)))

-- OPERANDS of two bytes or three

-- the address of the last byte that was fetched
abbrev pub last_fetched : Regs → ℕ
last_fetched r = (r.pc + 65535) % 65536

-- JSL pushes the program bank before it fetches the bank of its target
abbrev pub call_bank : Row → Regs → ℕ → Plan
call_bank row r word = fetch r (λ bank r'. push_word row (record r' { pbr = bank }) (last_fetched r') word)

-- after the third byte of an operand
abbrev pub after_bank : BankKind → Traffic → Row → Regs → ℕ → ℕ → Plan
after_bank BankKind.Plain d row r word bank = data_at d NextAddress row r (in_bank bank word)
after_bank BankKind.X d row r word bank = data_at d NextAddress row r (indexed (in_bank bank word) r.x)
after_bank BankKind.Jump d row r word bank = done row (record r { pbr = bank }) word

abbrev pub bank_of : BankKind → Traffic → Row → Regs → ℕ → Plan
bank_of kind d row r word = fetch r (λ bank r'. after_bank kind d row r' word bank)

abbrev pub after_operand : OperandKind → Traffic → Row → Regs → ℕ → Plan
after_operand OperandKind.Plain d row r word = data_at d NextAddress row r (in_bank r.dbr word)
after_operand OperandKind.X d row r word = data_indexed d row r (in_bank r.dbr word) r.x
after_operand OperandKind.Y d row r word = data_indexed d row r (in_bank r.dbr word) r.y
after_operand OperandKind.Long d row r word = bank_of BankKind.Plain d row r word
after_operand OperandKind.LongX d row r word = bank_of BankKind.X d row r word
after_operand OperandKind.Jump d row r word = done row r word
after_operand OperandKind.JumpLong d row r word = bank_of BankKind.Jump d row r word
after_operand OperandKind.JumpPointer d row r word = target TargetKind.Near row r word
after_operand OperandKind.JumpXPointer d row r word = idles (target TargetKind.Near row r (in_bank r.pbr ((word + r.x) % 65536)))
after_operand OperandKind.JumpLongPointer d row r word = target TargetKind.Far row r word
after_operand OperandKind.Call d row r word = idles (push_word row r (last_fetched r) word)
after_operand OperandKind.CallLong d row r word = writes (stack r) r.pbr (idles (call_bank row (pushed r) word))
after_operand OperandKind.Pushed d row r word = push_word row r word word
after_operand OperandKind.PushedRelative d row r word = push_order d row r word
after_operand OperandKind.BranchLong d row r word = idles (done row r word)

abbrev pub operand_high : OperandKind → Traffic → Row → Regs → ℕ → Plan
operand_high kind d row r low = fetch r (λ high r'. after_operand kind d row r' (join low high))

abbrev pub operand : OperandKind → Traffic → Row → Regs → Plan
operand kind d row r = fetch r (λ low r'. operand_high kind d row r' low)

-- JSR (a,X) pushes its return address between the two bytes of its operand
abbrev pub call_pointer_high : Row → Regs → ℕ → Plan
call_pointer_high row r low = fetch r (λ high r'. idles (target TargetKind.Near row r' (in_bank r'.pbr ((join low high + r'.x) % 65536))))

abbrev pub call_pointer_pushes : Row → Regs → ℕ → Plan
call_pointer_pushes row r low = writes (stack r) (r.pc / 256 % 256) (writes (stack (pushed r)) (r.pc % 256) (call_pointer_high row (pushed (pushed r)) low))

abbrev pub call_pointer : Row → Regs → Plan
call_pointer row r = fetch r (λ low r'. call_pointer_pushes row r' low)

-- IMMEDIATE data
abbrev pub immediate_high : Row → Regs → ℕ → Plan
immediate_high row r low = fetch r (λ high r'. done row r' (join low high))

abbrev pub immediate : Traffic → Row → Regs → Plan
immediate d row r = fetch r (λ low r'. if d.wide then immediate_high row r' low else done row r' low)

-- THE MODES of data; with the others there is one cycle
abbrev pub by_mode : Mode → Traffic → Row → Regs → Plan
by_mode Immediate d row r = immediate d row r
by_mode Direct d row r = direct_order DirectKind.Plain d row r
by_mode DirectX d row r = direct_order DirectKind.X d row r
by_mode DirectY d row r = direct_order DirectKind.Y d row r
by_mode DirectPointer d row r = direct_order DirectKind.Pointer d row r
by_mode DirectXPointer d row r = direct_order DirectKind.XPointer d row r
by_mode DirectPointerY d row r = direct_order DirectKind.PointerY d row r
by_mode DirectLongPointer d row r = direct_order DirectKind.LongPointer d row r
by_mode DirectLongPointerY d row r = direct_order DirectKind.LongPointerY d row r
by_mode Absolute d row r = operand OperandKind.Plain d row r
by_mode AbsoluteX d row r = operand OperandKind.X d row r
by_mode AbsoluteY d row r = operand OperandKind.Y d row r
by_mode Long d row r = operand OperandKind.Long d row r
by_mode LongX d row r = operand OperandKind.LongX d row r
by_mode StackRelative d row r = stack_data d row r
by_mode StackPointerY d row r = stack_pointer d row r
by_mode AbsolutePointer d row r = idles (done row r 0)
by_mode AbsoluteXPointer d row r = idles (done row r 0)
by_mode AbsoluteLongPointer d row r = idles (done row r 0)
by_mode Relative d row r = idles (done row r 0)
by_mode RelativeLong d row r = idles (done row r 0)
by_mode Accumulator d row r = idles (done row r 0)
by_mode Implied d row r = idles (done row r 0)
by_mode Stack d row r = idles (done row r 0)
by_mode BlockMove d row r = idles (done row r 0)

-- how JMP and JSR find their target
abbrev pub jump_kind : Mode → OperandKind
jump_kind Long = OperandKind.JumpLong
jump_kind AbsolutePointer = OperandKind.JumpPointer
jump_kind AbsoluteXPointer = OperandKind.JumpXPointer
jump_kind AbsoluteLongPointer = OperandKind.JumpLongPointer
jump_kind _ = OperandKind.Jump

abbrev pub call_order : Mode → Traffic → Row → Regs → Plan
call_order AbsoluteXPointer d row r = call_pointer row r
call_order _ d row r = operand OperandKind.Call d row r

-- PULLS of registers
abbrev pub pull_high : Row → Regs → ℕ → Plan
pull_high row r low = pull r (λ high r'. done row r' (join low high))

abbrev pub pull_data : Traffic → Row → Regs → Plan
pull_data d row r = pull r (λ low r'. if d.wide then pull_high row r' low else done row r' low)

-- RETURNS
abbrev pub return_bank : Row → Regs → ℕ → Plan
return_bank row r word = pull r (λ bank r'. done row (record r' { pbr = bank }) word)

abbrev pub after_return : ReturnKind → Row → Regs → ℕ → Plan
after_return ReturnKind.Near row r word = idles (done row r word)
after_return ReturnKind.Far row r word = return_bank row r word
after_return ReturnKind.Interrupt row r word = if r.e then done row r word else return_bank row r word

abbrev pub return_high : ReturnKind → Row → Regs → ℕ → Plan
return_high kind row r low = pull r (λ high r'. after_return kind row r' (join low high))

abbrev pub return_counter : ReturnKind → Row → Regs → Plan
return_counter kind row r = pull r (λ low r'. return_high kind row r' low)

abbrev pub return_status : Row → Regs → Plan
return_status row r = pull r (λ status r'. return_counter ReturnKind.Interrupt row (record r' { p = status }))

abbrev pub return_pulls : ReturnKind → Row → Regs → Plan
return_pulls ReturnKind.Near row r = return_counter ReturnKind.Near row r
return_pulls ReturnKind.Far row r = return_counter ReturnKind.Far row r
return_pulls ReturnKind.Interrupt row r = return_status row r

-- BRANCHES: a cycle where the branch is taken, and one more in emulation mode where it leaves the page
abbrev pub leaves_page : Regs → ℕ → Bool
leaves_page r offset = r.e && not (relative r.pc offset / 256 == r.pc / 256)

abbrev pub branch_cycles : Row → Regs → ℕ → Plan
branch_cycles row r offset =
    if taken row.op r.p then (if leaves_page r offset then idles (idles (done row r offset)) else idles (done row r offset)) else done row r offset

abbrev pub branch : Row → Regs → Plan
branch row r = fetch r (λ offset r'. branch_cycles row r' offset)

-- INTERRUPTS
abbrev pub vector : Cause → Bool → ℕ
vector Cause.Coprocessor e = if e then 0xFFF4 else 0xFFE4
vector Cause.Break e = if e then 0xFFFE else 0xFFE6
vector Cause.Nmi e = if e then 0xFFFA else 0xFFEA
vector Cause.Irq e = if e then 0xFFFE else 0xFFEE

abbrev pub push_status : Row → Regs → ℕ → Plan
push_status row r at = writes (stack r) (pushed_status row.op r) (target TargetKind.Near row (pushed r) at)

abbrev pub push_counter_low : Row → Regs → ℕ → Plan
push_counter_low row r at = writes (stack r) (r.pc % 256) (push_status row (pushed r) at)

abbrev pub push_counter : Row → Regs → ℕ → Plan
push_counter row r at = writes (stack r) (r.pc / 256 % 256) (push_counter_low row (pushed r) at)

-- After the opcode and the signature of BRK and COP, or two cycles of NMI and IRQ, the seven or six accesses are: push PBR (native mode alone), push PCH, push PCL, push P, read the low byte of the vector, read its high byte.
abbrev pub interrupted : Row → Regs → ℕ → Plan
interrupted row r at = if r.e then push_counter row r at else writes (stack r) r.pbr (push_counter row (pushed r) at)

-- BLOCK MOVES: the destination's bank comes first
abbrev pub block_write : Row → Regs → ℕ → Plan
block_write row r byte = writes (in_bank r.dbr r.y) (byte % 256) (idles (idles (done row r byte)))

abbrev pub block_read : Row → Regs → ℕ → Plan
block_read row r at = reads at (λ byte. block_write row r byte)

abbrev pub block_source : Row → Regs → Plan
block_source row r = fetch r (λ bank r'. block_read row r' (in_bank bank r'.x))

abbrev pub block : Row → Regs → Plan
block row r = fetch r (λ bank r'. block_source row (record r' { dbr = bank }))

-- data that is only read, of 8 bits: what the orders without data pass on
abbrev pub no_data : Traffic
no_data = record { direction = Direction.Load; wide = false }

-- the data of an operation
abbrev pub data_of : Direction → Width → Regs → Traffic
data_of direction width r = record { direction = direction; wide = is_wide width r }

-- THE OPERATIONS
abbrev pub order_by : Use → Row → Regs → Plan
order_by (Use.Load width) row r = by_mode row.mode (data_of Direction.Load width r) row r
order_by (Use.Store width) row r = by_mode row.mode (data_of Direction.Store width r) row r
order_by (Use.Change width) row r = by_mode row.mode (data_of Direction.Change width r) row r
order_by Use.Internal row r = idles (done row r 0)
order_by Use.Exchange row r = idles (idles (done row r 0))
order_by Use.Status row r = fetch r (λ mask r'. idles (done row r' mask))
order_by Use.Reserved row r = fetch r (λ byte r'. done row r' byte)
order_by (Use.Push width) row r = push_order (data_of Direction.Store width r) row r 0
order_by (Use.Pull width) row r = idles (idles (pull_data (data_of Direction.Load width r) row r))
order_by Use.PushOperand row r = operand OperandKind.Pushed no_data row r
order_by Use.PushDirect row r = direct_order DirectKind.Pushed no_data row r
order_by Use.PushRelative row r = operand OperandKind.PushedRelative (data_of Direction.Store Width.Word r) row r
order_by Use.Jump row r = operand (jump_kind row.mode) no_data row r
order_by Use.Call row r = call_order row.mode no_data row r
order_by Use.CallLong row r = operand OperandKind.CallLong no_data row r
order_by Use.Return row r = idles (idles (return_pulls ReturnKind.Near row r))
order_by Use.ReturnLong row r = idles (idles (return_pulls ReturnKind.Far row r))
order_by Use.ReturnInterrupt row r = idles (idles (return_pulls ReturnKind.Interrupt row r))
order_by Use.Branch row r = branch row r
order_by Use.BranchLong row r = operand OperandKind.BranchLong no_data row r
order_by (Use.Software cause) row r = fetch r (λ byte r'. interrupted row r' (vector cause r'.e))
order_by (Use.Hardware cause) row r = idles (idles (interrupted row r (vector cause r.e)))
order_by Use.BlockMove row r = block row r
order_by Use.Wait row r = idles (idles (waits r))
order_by Use.Stop row r = stops
order_by Use.Reset row r = target TargetKind.Near row r 0xFFFC

-- the accesses of a row, after its opcode fetch if it has one
abbrev pub order : Row → Regs → Plan
order row r = order_by (use_of row.op) row r

-- a number that is no opcode has no row; no byte is one
abbrev pub order_of_opcode : Option Row → Regs → Plan
order_of_opcode None r = stops
order_of_opcode (Some row) r = order row r

-- an instruction from its opcode fetch on
abbrev pub instruction : Regs → Plan
instruction r = fetch r (λ opcode r'. order_of_opcode (row_of opcode) r')
