-- What a micro-state leaves to do: the rest of a plan, by the place in it; and the next access that it keeps.
use Rattle.std.specs.Prelude.{◌≡◌, ℕ, Bool, true, false, Some, ◌%◌, ◌<◌}
use Rattle.cpu_tables.specs.declared.opcode.Row.{Row}
use Rattle.cpu_tables.specs.declared.regs.Regs.{Regs}
use Rattle.cpu_modes.specs.Addresses.{in_bank, indexed, second, stack, pushed}
use Rattle.cpu_modes.specs.Orders.{fetch, pull, done, load_high, store, store_high, written_of, write_low, write_high, changed, change, change_high, data_at, push_low, push_word, target, target_high, pointer, pointer_high, after_offset, direct_order, stack_data, stack_pointer, operand, operand_high, bank_of, after_operand, call_bank, call_pointer, call_pointer_high, call_pointer_pushes, immediate_high, push_order, pull_data, pull_high, return_pulls, return_counter, return_high, return_status, return_bank, branch, interrupted, push_counter, push_counter_low, push_status, block, block_source, block_read, block_write, instruction}
use Rattle.cpu_modes.specs.Plan.{Plan, fetches, reads, writes, idles, waits, stops, ends, address_of, comes, finished}
use Rattle.cpu_modes.specs.declared.micro.Micro.{Micro}
use Rattle.cpu_modes.specs.declared.place.Traffic.{Traffic}
use Rattle.cpu_modes.specs.declared.place.OperandKind.{OperandKind}
use Rattle.cpu_modes.specs.declared.place.Place.{Place}
use Rattle.cpu_modes.specs.declared.place.Reach.TheVariants.{NextAddress}
use Rattle.cpu_modes.specs.declared.place.TargetKind.{TargetKind}

-- What is left to do from a place on: the registers, a base (an address, or a word to be pushed) and a word (an operand, or its low byte) are those that the accesses before it left.
abbrev pub remaining_at : Place → Traffic → Row → Regs → ℕ → ℕ → Plan
remaining_at Place.OperandByte d row r base word = fetch r (λ byte r'. done row r' byte)
remaining_at Place.StatusOperand d row r base word = fetch r (λ mask r'. idles (done row r' mask))
remaining_at Place.ImmediateLow d row r base word = fetch r (λ low r'. immediate_high row r' low)
remaining_at Place.ImmediateHigh d row r base word = immediate_high row r word
remaining_at (Place.DirectOffset kind) d row r base word = direct_order kind d row r
remaining_at (Place.LowCycle kind) d row r base word = idles (after_offset kind d row r word)
remaining_at Place.StackOffset d row r base word = stack_data d row r
remaining_at Place.StackPointerOffset d row r base word = stack_pointer d row r
remaining_at (Place.OperandLow kind) d row r base word = operand kind d row r
remaining_at (Place.OperandHigh kind) d row r base word = operand_high kind d row r word
remaining_at (Place.OperandBank kind) d row r base word = bank_of kind d row r word
remaining_at (Place.PointerCycle kind) d row r base word = idles (pointer kind d row r base)
remaining_at (Place.PointerLow kind) d row r base word = pointer kind d row r base
remaining_at (Place.PointerHigh kind) d row r base word = pointer_high kind d row r base word
remaining_at Place.PointerBank d row r base word = reads base (λ bank. data_at d NextAddress row r (in_bank bank word))
remaining_at Place.PointerBankY d row r base word = reads base (λ bank. data_at d NextAddress row r (indexed (in_bank bank word) r.y))
remaining_at (Place.DataCycle reach) d row r base word = idles (data_at d reach row r base)
remaining_at Place.LoadByte d row r base word = reads base (λ byte. done row r byte)
remaining_at (Place.LoadLow reach) d row r base word = reads base (λ low. load_high row r (second reach base) low)
remaining_at Place.LoadHigh d row r base word = load_high row r base word
remaining_at (Place.StoreLow reach) d row r base word = store d reach r base (written_of row r word)
remaining_at Place.StoreHigh d row r base word = store_high r base (written_of row r word)
remaining_at (Place.ChangeReadLow reach) d row r base word = change d reach row r base
remaining_at (Place.ChangeReadHigh reach) d row r base word = change_high d reach row r base word
remaining_at (Place.ChangeCycle reach) d row r base word = changed d reach row r base word
remaining_at (Place.ChangeWriteHigh reach) d row r base word = write_high reach row r base word
remaining_at Place.ChangeWriteLow d row r base word = write_low row r base word
remaining_at Place.TwoCycles d row r base word = idles (idles (done row r word))
remaining_at Place.LastCycle d row r base word = idles (done row r word)
remaining_at Place.PushCycle d row r base word = push_order d row r word
remaining_at Place.PushWordCycle d row r base word = idles (push_word row r base word)
remaining_at Place.PushHigh d row r base word = push_word row r base word
remaining_at Place.PushLow d row r base word = push_low row r base word
remaining_at Place.PullFirstCycle d row r base word = idles (idles (pull_data d row r))
remaining_at Place.PullCycle d row r base word = idles (pull_data d row r)
remaining_at Place.PullByte d row r base word = pull r (λ byte r'. done row r' byte)
remaining_at Place.PullLow d row r base word = pull r (λ low r'. pull_high row r' low)
remaining_at Place.PullHigh d row r base word = pull_high row r word
remaining_at Place.CallBankPush d row r base word = after_operand OperandKind.CallLong d row r word
remaining_at Place.CallBankCycle d row r base word = idles (call_bank row r word)
remaining_at Place.CallBank d row r base word = call_bank row r word
remaining_at Place.CallPointerLow d row r base word = call_pointer row r
remaining_at Place.CallPointerPushHigh d row r base word = call_pointer_pushes row r word
remaining_at Place.CallPointerPushLow d row r base word = writes (stack r) (r.pc % 256) (call_pointer_high row (pushed r) word)
remaining_at Place.CallPointerHigh d row r base word = call_pointer_high row r word
remaining_at Place.TargetCycle d row r base word = idles (target TargetKind.Near row r base)
remaining_at (Place.TargetLow kind) d row r base word = target kind row r base
remaining_at (Place.TargetHigh kind) d row r base word = target_high kind row r base word
remaining_at Place.TargetBank d row r base word = reads base (λ bank. done row (record r { pbr = bank }) word)
remaining_at (Place.ReturnFirstCycle kind) d row r base word = idles (idles (return_pulls kind row r))
remaining_at (Place.ReturnCycle kind) d row r base word = idles (return_pulls kind row r)
remaining_at Place.ReturnStatus d row r base word = return_status row r
remaining_at (Place.ReturnLow kind) d row r base word = return_counter kind row r
remaining_at (Place.ReturnHigh kind) d row r base word = return_high kind row r word
remaining_at Place.ReturnBank d row r base word = return_bank row r word
remaining_at Place.BranchOffset d row r base word = branch row r
remaining_at Place.BreakOperand d row r base word = fetch r (λ byte r'. interrupted row r' base)
remaining_at Place.InterruptFirstCycle d row r base word = idles (idles (interrupted row r base))
remaining_at Place.InterruptCycle d row r base word = idles (interrupted row r base)
remaining_at Place.InterruptBank d row r base word = writes (stack r) r.pbr (push_counter row (pushed r) base)
remaining_at Place.InterruptHigh d row r base word = push_counter row r base
remaining_at Place.InterruptLow d row r base word = push_counter_low row r base
remaining_at Place.InterruptStatus d row r base word = push_status row r base
remaining_at Place.BlockDestination d row r base word = block row r
remaining_at Place.BlockSource d row r base word = block_source row r
remaining_at Place.BlockRead d row r base word = block_read row r base
remaining_at Place.BlockWrite d row r base word = block_write row r word
remaining_at Place.WaitFirstCycle d row r base word = idles (idles (waits r))
remaining_at Place.WaitCycle d row r base word = idles (waits r)
remaining_at Place.Waiting d row r base word = waits r
remaining_at Place.Stopped d row r base word = stops
remaining_at Place.Ended d row r base word = ends r

-- what a micro-state leaves to do
abbrev pub remaining : Micro → Plan
remaining m = remaining_at m.place m.traffic m.row m.here m.base m.word

-- what is left once an instruction that has ended, or is woken, has given way to the next one, from its opcode fetch on
abbrev pub onward : Plan → Plan
onward (fetches at more) = fetches at more
onward (reads at more) = reads at more
onward (writes at byte more) = writes at byte more
onward (idles more) = idles more
onward (waits r) = instruction r
onward stops = stops
onward (ends r) = instruction r

-- A micro-state in the middle of an instruction keeps its next access. Where the instruction has ended or waits, the registers are those here, and the next access is for the interrupt lines to say.
abbrev pub Keeps : Bool → Micro → Type 0
Keeps false m = (comes (remaining m) ≡ Some m.access) × (address_of m.access < 16777216)
Keeps true m = finished true (remaining m) ≡ Some m.here
