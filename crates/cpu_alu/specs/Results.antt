-- What each operation makes of the registers, and the operand that it writes (W65C816S data sheet, operations
-- and status register). Its words: the status, REP, SEP, XCE, S and D in `Registers`; branches, RTI, interrupts
-- and block moves in `Flow`; ADC, SBC and CMP in `Sums`; shifts, counts and tests of bits in `Changes`.
use Rattle.std.specs.Prelude.{ℕ, Bool, true, false, ◌+◌, ◌%◌, bit_and, bit_or, bit_xor}
use Rattle.cpu_tables.specs.declared.mode.Mode.{Mode}
use Rattle.cpu_tables.specs.declared.mode.Mode.TheVariants.{Accumulator, Immediate}
use Rattle.cpu_tables.specs.declared.opcode.Row.{Row}
use Rattle.cpu_tables.specs.declared.operation.Op.{Op}
use Rattle.cpu_tables.specs.declared.operation.Op.TheVariants.{Adc, And, Asl, Bcc, Bcs, Beq, Bit, Bmi, Bne, Bpl, Bra, Brk, Brl, Bvc, Bvs, Clc, Cld, Cli, Clv, Cmp, Cop, Cpx, Cpy, Dec, Dex, Dey, Eor, Inc, Inx, Iny, Jmp, Jsl, Jsr, Lda, Ldx, Ldy, Lsr, Mvn, Mvp, Nop, Ora, Pea, Pei, Per, Pha, Phb, Phd, Phk, Php, Phx, Phy, Pla, Plb, Pld, Plp, Plx, Ply, Rep, Rol, Ror, Rti, Rtl, Rts, Sbc, Sec, Sed, Sei, Sep, Sta, Stp, Stx, Sty, Stz, Tax, Tay, Tcd, Tcs, Tdc, Trb, Tsb, Tsc, Tsx, Txa, Txs, Txy, Tya, Tyx, Wai, Wdm, Xba, Xce, Nmi, Irq, Reset}
use Rattle.cpu_tables.specs.declared.regs.Regs.{Regs}
use Rattle.cpu_tables.specs.declared.flags.TheConstants.{CARRY, IRQ_DISABLE, DECIMAL, OVERFLOW}
use Rattle.cpu_tables.specs.Status.{memory_size, index_size}
use Rattle.cpu_alu.specs.declared.changes.Changed.{Changed}
use Rattle.cpu_alu.specs.Width.{accumulator, load_a, load_x, load_y}
use Rattle.cpu_alu.specs.Sums.{add, subtract, compare, test_bits}
use Rattle.cpu_alu.specs.Changes.{shift_left, shift_right, rotate_left, rotate_right, increment, decrement, set_bits, clear_bits, operand, with_change}
use Rattle.cpu_alu.specs.Registers.{with_status, pushed_status, clear_flags, set_flags, with_flag, exchange_modes, set_stack, load_a_wide, load_d, load_bank, swap_bytes}
use Rattle.cpu_alu.specs.Flow.{branch, jump, far_relative, return_from_interrupt, interrupt, reset, moved_block}

-- The registers stand as the accesses of the instruction left them: the program counter past the operand,
-- the stack pointer past what was pushed or pulled, a bank that was fetched or pulled in its register. The
-- word is what was read: the operand, the pulled bytes, the vector, the pointed-to address.

abbrev pub is_accumulator : Mode → Bool
is_accumulator Accumulator = true
is_accumulator _ = false

abbrev pub is_immediate : Mode → Bool
is_immediate Immediate = true
is_immediate _ = false

-- the operand and the status byte of an operation that changes its operand, at A or in memory
abbrev pub changed : (ℕ → ℕ → ℕ → Changed) → Mode → Regs → ℕ → Changed
changed change mode r word = change (memory_size r) r.p (operand (is_accumulator mode) r word)

-- the operand and the status byte of TSB and TRB, which change their operand by the bits of A
abbrev pub changed_by_a : (ℕ → ℕ → ℕ → Changed) → Regs → ℕ → Changed
changed_by_a change r word = change (accumulator r) r.p (word % memory_size r)

-- the registers after an instruction
unfoldable pub registers_after : Op → Mode → Regs → ℕ → Regs
-- sums, comparisons, logic
registers_after Adc _ r word = add r word
registers_after Sbc _ r word = subtract r word
registers_after Cmp _ r word = compare (memory_size r) r.a r word
registers_after Cpx _ r word = compare (index_size r) r.x r word
registers_after Cpy _ r word = compare (index_size r) r.y r word
registers_after Bit mode r word = test_bits (is_immediate mode) r word
registers_after Ora _ r word = load_a r (bit_or r.a word)
registers_after And _ r word = load_a r (bit_and r.a word)
registers_after Eor _ r word = load_a r (bit_xor r.a word)
-- changes of A or memory
registers_after Asl mode r word = with_change (is_accumulator mode) r (changed shift_left mode r word)
registers_after Lsr mode r word = with_change (is_accumulator mode) r (changed shift_right mode r word)
registers_after Rol mode r word = with_change (is_accumulator mode) r (changed rotate_left mode r word)
registers_after Ror mode r word = with_change (is_accumulator mode) r (changed rotate_right mode r word)
registers_after Inc mode r word = with_change (is_accumulator mode) r (changed increment mode r word)
registers_after Dec mode r word = with_change (is_accumulator mode) r (changed decrement mode r word)
registers_after Tsb _ r word = with_change false r (changed_by_a set_bits r word)
registers_after Trb _ r word = with_change false r (changed_by_a clear_bits r word)
-- steps of the indexes
registers_after Inx _ r _ = load_x r (r.x + 1)
registers_after Iny _ r _ = load_y r (r.y + 1)
registers_after Dex _ r _ = load_x r (r.x + 65535)
registers_after Dey _ r _ = load_y r (r.y + 65535)
-- loads, stores, pulls, pushes
registers_after Lda _ r word = load_a r word
registers_after Ldx _ r word = load_x r word
registers_after Ldy _ r word = load_y r word
registers_after Sta _ r _ = r
registers_after Stx _ r _ = r
registers_after Sty _ r _ = r
registers_after Stz _ r _ = r
registers_after Pla _ r word = load_a r word
registers_after Plx _ r word = load_x r word
registers_after Ply _ r word = load_y r word
registers_after Plb _ r word = load_bank r word
registers_after Pld _ r word = load_d r word
registers_after Plp _ r word = with_status r (word % 256)
registers_after Pha _ r _ = r
registers_after Phx _ r _ = r
registers_after Phy _ r _ = r
registers_after Phb _ r _ = r
registers_after Phd _ r _ = r
registers_after Phk _ r _ = r
registers_after Php _ r _ = r
registers_after Pea _ r _ = r
registers_after Pei _ r _ = r
registers_after Per _ r _ = r
-- transfers
registers_after Tax _ r _ = load_x r r.a
registers_after Tay _ r _ = load_y r r.a
registers_after Tsx _ r _ = load_x r r.s
registers_after Txy _ r _ = load_y r r.x
registers_after Tyx _ r _ = load_x r r.y
registers_after Txa _ r _ = load_a r r.x
registers_after Tya _ r _ = load_a r r.y
registers_after Txs _ r _ = set_stack r r.x
registers_after Tcs _ r _ = set_stack r r.a
registers_after Tcd _ r _ = load_d r r.a
registers_after Tdc _ r _ = load_a_wide r r.d
registers_after Tsc _ r _ = load_a_wide r r.s
registers_after Xba _ r _ = swap_bytes r
-- flags
registers_after Clc _ r _ = with_flag r CARRY false
registers_after Sec _ r _ = with_flag r CARRY true
registers_after Cli _ r _ = with_flag r IRQ_DISABLE false
registers_after Sei _ r _ = with_flag r IRQ_DISABLE true
registers_after Cld _ r _ = with_flag r DECIMAL false
registers_after Sed _ r _ = with_flag r DECIMAL true
registers_after Clv _ r _ = with_flag r OVERFLOW false
registers_after Rep _ r word = clear_flags r word
registers_after Sep _ r word = set_flags r word
registers_after Xce _ r _ = exchange_modes r
-- branches, jumps, calls, returns
registers_after Bpl _ r word = branch Bpl r word
registers_after Bmi _ r word = branch Bmi r word
registers_after Bvc _ r word = branch Bvc r word
registers_after Bvs _ r word = branch Bvs r word
registers_after Bcc _ r word = branch Bcc r word
registers_after Bcs _ r word = branch Bcs r word
registers_after Bne _ r word = branch Bne r word
registers_after Beq _ r word = branch Beq r word
registers_after Bra _ r word = branch Bra r word
registers_after Brl _ r word = jump r (far_relative r.pc word)
registers_after Jmp _ r word = jump r word
registers_after Jsr _ r word = jump r word
registers_after Jsl _ r word = jump r word
registers_after Rts _ r word = jump r ((word + 1) % 65536)
registers_after Rtl _ r word = jump r ((word + 1) % 65536)
registers_after Rti _ r word = return_from_interrupt r word
-- interrupts, reset
registers_after Brk _ r word = interrupt r word
registers_after Cop _ r word = interrupt r word
registers_after Nmi _ r word = interrupt r word
registers_after Irq _ r word = interrupt r word
registers_after Reset _ _ word = reset word
-- block moves, and what changes no register
registers_after Mvn _ r _ = moved_block 1 r
registers_after Mvp _ r _ = moved_block 65535 r
registers_after Nop _ r _ = r
registers_after Wdm _ r _ = r
registers_after Wai _ r _ = r
registers_after Stp _ r _ = r

-- the operand that an instruction writes or pushes; 0 where there is none
unfoldable pub operand_written : Op → Mode → Regs → ℕ → ℕ
operand_written Sta _ r _ = accumulator r
operand_written Stx _ r _ = r.x % index_size r
operand_written Sty _ r _ = r.y % index_size r
operand_written Stz _ _ _ = 0
operand_written Pha _ r _ = accumulator r
operand_written Phx _ r _ = r.x % index_size r
operand_written Phy _ r _ = r.y % index_size r
operand_written Phb _ r _ = r.dbr
operand_written Phd _ r _ = r.d
operand_written Phk _ r _ = r.pbr
operand_written Php _ r _ = pushed_status Php r
operand_written Pea _ _ word = word
operand_written Pei _ _ word = word
operand_written Per _ r word = far_relative r.pc word
operand_written Asl mode r word = (changed shift_left mode r word).value
operand_written Lsr mode r word = (changed shift_right mode r word).value
operand_written Rol mode r word = (changed rotate_left mode r word).value
operand_written Ror mode r word = (changed rotate_right mode r word).value
operand_written Inc mode r word = (changed increment mode r word).value
operand_written Dec mode r word = (changed decrement mode r word).value
operand_written Tsb _ r word = (changed_by_a set_bits r word).value
operand_written Trb _ r word = (changed_by_a clear_bits r word).value
operand_written Mvn _ _ word = word % 256
operand_written Mvp _ _ word = word % 256
operand_written _ _ _ _ = 0

-- both
abbrev pub apply_of : Row → Regs → ℕ → Regs × ℕ
apply_of row r word = (registers_after row.op row.mode r word, operand_written row.op row.mode r word)
