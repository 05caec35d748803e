-- What a micro-state leaves to do: the rest of a plan, by the place in it; what comes next; the registers.
use Rattle.std.specs.Prelude.{ℕ}
use Rattle.spc_tables.specs.declared.opcode.SpcRow.{SpcRow}
use Rattle.spc_tables.specs.declared.regs.SpcRegs.{SpcRegs}
use Rattle.spc_modes.specs.Orders.{idles_for, write_last, write_slowly, load, change, change_by_a, load_word_high, load_word, compare_word, store_word_low, store_word, step_word_high, step_word_low, step_word, data_at, bit_at, pointer_high, pointer, increment_load, increment_at, pair_at, immediate_pair, direct_pair_place, direct_pair, indirect_pair, branch, test, target_high, target, break_status, push_low, push_high, operand_high, first_byte, push_register, pull_register, return_high, return_counter, return_status, pulls, instruction}
use Rattle.spc_modes.specs.Plan.{Plan, fetches, reads, writes, idles, stops, ends}
use Rattle.spc_modes.specs.Uses.{use_of}
use Rattle.spc_modes.specs.declared.micro.Micro.{Micro}
use Rattle.spc_modes.specs.declared.place.Place.{Place}
use Rattle.spc_modes.specs.declared.place.PointerKind.{PointerKind}

-- What is left to do from a place on: the registers, the base (an address, or where a call goes) and the byte (a low byte, a source, a count, a bit's number, or what is written) are those that the accesses before it left.
abbrev pub remaining_at : Place → SpcRow → SpcRegs → ℕ → ℕ → Plan
remaining_at Place.Between row r base byte = ends r
remaining_at Place.FirstByte row r base byte = first_byte row r
remaining_at Place.OperandHigh row r base byte = operand_high row r byte
remaining_at Place.DataCycle row r base byte = idles (data_at row r base)
remaining_at Place.Load row r base byte = load row r base
remaining_at Place.ChangeRead row r base byte = change row r base
remaining_at Place.ChangeByARead row r base byte = change_by_a row r base
remaining_at Place.WordLow row r base byte = load_word row r base
remaining_at Place.CompareWordLow row r base byte = compare_word row r base
remaining_at Place.WordCycle row r base byte = idles (load_word_high row r base byte)
remaining_at Place.WordHigh row r base byte = load_word_high row r base byte
remaining_at Place.StoreWordCycle row r base byte = store_word r base
remaining_at Place.StoreWordLow row r base byte = store_word_low r base
remaining_at Place.StepWordRead row r base byte = step_word row r base
remaining_at Place.StepWordLow row r base byte = step_word_low row r base byte
remaining_at Place.StepWordHigh row r base byte = step_word_high row r base byte
remaining_at Place.BitRead row r base byte = bit_at row r base byte
remaining_at Place.PointerCycle row r base byte = idles (pointer PointerKind.Plain row r base)
remaining_at (Place.PointerLow kind) row r base byte = pointer kind row r base
remaining_at (Place.PointerHigh kind) row r base byte = pointer_high kind row r base byte
remaining_at Place.IncrementCycle row r base byte = idles (increment_at (use_of row.op) row r base)
remaining_at Place.IncrementLoad row r base byte = increment_load row r base
remaining_at Place.WriteCycle row r base byte = write_slowly r base byte
remaining_at Place.WriteLast row r base byte = write_last r base byte
remaining_at Place.Cycles row r base byte = idles (idles_for byte (ends r))
remaining_at Place.ImmediatePairOffset row r base byte = immediate_pair row r byte
remaining_at Place.DirectPairSource row r base byte = direct_pair row r base
remaining_at Place.DirectPairOffset row r base byte = direct_pair_place row r byte
remaining_at Place.IndirectPairCycle row r base byte = idles (indirect_pair row r base)
remaining_at Place.IndirectPairSource row r base byte = indirect_pair row r base
remaining_at Place.PairRead row r base byte = pair_at row r base byte
remaining_at (Place.BranchFirstCycle is_taken) row r base byte = idles (idles (branch is_taken r))
remaining_at (Place.BranchCycle is_taken) row r base byte = idles (branch is_taken r)
remaining_at (Place.BranchDistance is_taken) row r base byte = branch is_taken r
remaining_at Place.TestCycle row r base byte = idles (test row r base)
remaining_at Place.TestRead row r base byte = test row r base
remaining_at (Place.CountWrite is_taken) row r base byte = writes base byte (branch is_taken r)
remaining_at Place.PushCycle row r base byte = idles (push_register r byte)
remaining_at Place.PushRegister row r base byte = push_register r byte
remaining_at Place.PullFirstCycle row r base byte = idles (idles (pulls (use_of row.op) row r))
remaining_at Place.PullCycle row r base byte = idles (pulls (use_of row.op) row r)
remaining_at Place.PullRegister row r base byte = pull_register row r
remaining_at Place.ReturnStatus row r base byte = return_status r
remaining_at Place.ReturnLow row r base byte = return_counter r
remaining_at Place.ReturnHigh row r base byte = return_high r byte
remaining_at Place.CallFirstCycle row r base byte = idles (idles (push_high row r base))
remaining_at Place.CallCycle row r base byte = idles (push_high row r base)
remaining_at Place.PushHigh row r base byte = push_high row r base
remaining_at Place.PushLow row r base byte = push_low row r base
remaining_at Place.BreakStatus row r base byte = break_status r base
remaining_at Place.TargetCycle row r base byte = idles (target r base)
remaining_at Place.TargetLow row r base byte = target r base
remaining_at Place.TargetHigh row r base byte = target_high r base byte
remaining_at Place.Halted row r base byte = stops

-- what a micro-state leaves to do
abbrev pub remaining : Micro → Plan
remaining m = remaining_at m.place m.row m.here m.base m.byte

-- what is to be done next: what is left of the instruction, or where that has ended, all of the next one
abbrev pub ahead : Plan → Plan
ahead (fetches at more) = fetches at more
ahead (reads at more) = reads at more
ahead (writes at byte more) = writes at byte more
ahead (idles more) = idles more
ahead stops = stops
ahead (ends r) = instruction r

-- the registers at the start of the instruction in hand; where the last one has ended, those after it
abbrev pub start_by : Plan → SpcRegs → SpcRegs
start_by (fetches at more) start = start
start_by (reads at more) start = start
start_by (writes at byte more) start = start
start_by (idles more) start = start
start_by stops start = start
start_by (ends r) start = r

abbrev pub start_of : Micro → SpcRegs
start_of m = start_by (remaining m) m.start
