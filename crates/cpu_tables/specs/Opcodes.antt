-- What each opcode means: an operation and an addressing mode (W65C816S data sheet, opcode matrix). Most come
-- in families, each operation at each of its places; the others are listed.
use Rattle.std.specs.Prelude.{ℕ, List, [], ◌∷◌, ◌+◌, ◌++◌, ◌==◌, map, Option, Some, None, if◌then◌else◌}
use Rattle.cpu_tables.specs.declared.mode.Mode.{Mode}
use Rattle.cpu_tables.specs.declared.mode.Mode.TheVariants.{Immediate, Direct, DirectX, DirectY, DirectPointer, DirectXPointer, DirectPointerY, DirectLongPointer, DirectLongPointerY, Absolute, AbsoluteX, AbsoluteY, Long, LongX, StackRelative, StackPointerY, AbsolutePointer, AbsoluteXPointer, AbsoluteLongPointer, Relative, RelativeLong, Accumulator, Implied, Stack, BlockMove}
use Rattle.cpu_tables.specs.declared.opcode.Row.{Row}
use Rattle.cpu_tables.specs.declared.operation.Op.{Op}
use Rattle.cpu_tables.specs.declared.operation.Op.TheVariants.{Adc, And, Asl, Bcc, Bcs, Beq, Bit, Bmi, Bne, Bpl, Bra, Brk, Brl, Bvc, Bvs, Clc, Cld, Cli, Clv, Cmp, Cop, Cpx, Cpy, Dec, Dex, Dey, Eor, Inc, Inx, Iny, Jmp, Jsl, Jsr, Lda, Ldx, Ldy, Lsr, Mvn, Mvp, Nop, Ora, Pea, Pei, Per, Pha, Phb, Phd, Phk, Php, Phx, Phy, Pla, Plb, Pld, Plp, Plx, Ply, Rep, Rol, Ror, Rti, Rtl, Rts, Sbc, Sec, Sed, Sei, Sep, Sta, Stp, Stx, Sty, Stz, Tax, Tay, Tcd, Tcs, Tdc, Trb, Tsb, Tsc, Tsx, Txa, Txs, Txy, Tya, Tyx, Wai, Wdm, Xba, Xce}

-- an opcode with what it means
abbrev pub Entry : Type 0
Entry = ℕ × Op × Mode

-- The eight operations between A and a memory operand, each with its base.
abbrev pub bases : List (ℕ × Op)
bases = (0x00, Ora) ∷ (0x20, And) ∷ (0x40, Eor) ∷ (0x60, Adc) ∷ (0x80, Sta) ∷ (0xA0, Lda) ∷ (0xC0, Cmp) ∷ (0xE0, Sbc) ∷ []

-- What is added to a base for the place of the operand.
abbrev pub places : List (ℕ × Mode)
places =
    (0x01, DirectXPointer) ∷ (0x03, StackRelative) ∷ (0x05, Direct) ∷ (0x07, DirectLongPointer) ∷
    (0x09, Immediate) ∷ (0x0D, Absolute) ∷ (0x0F, Long) ∷
    (0x11, DirectPointerY) ∷ (0x12, DirectPointer) ∷ (0x13, StackPointerY) ∷ (0x15, DirectX) ∷ (0x17, DirectLongPointerY) ∷
    (0x19, AbsoluteY) ∷ (0x1D, AbsoluteX) ∷ (0x1F, LongX) ∷ []

-- The six operations that change memory, each with its base.
abbrev pub change_bases : List (ℕ × Op)
change_bases = (0x00, Asl) ∷ (0x20, Rol) ∷ (0x40, Lsr) ∷ (0x60, Ror) ∷ (0xC0, Dec) ∷ (0xE0, Inc) ∷ []

-- What is added to such a base for the place that is changed.
abbrev pub change_places : List (ℕ × Mode)
change_places = (0x06, Direct) ∷ (0x0E, Absolute) ∷ (0x16, DirectX) ∷ (0x1E, AbsoluteX) ∷ []

-- The same six on A.
abbrev pub on_a : List Entry
on_a =
    (0x0A, Asl, Accumulator) ∷ (0x1A, Inc, Accumulator) ∷ (0x2A, Rol, Accumulator) ∷
    (0x3A, Dec, Accumulator) ∷ (0x4A, Lsr, Accumulator) ∷ (0x6A, Ror, Accumulator) ∷ []

-- All others. 89 stands where the families would have a store to an immediate operand.
unfoldable pub others : List Entry
others =
    (0x00, Brk, Stack) ∷ (0x02, Cop, Stack) ∷ (0x04, Tsb, Direct) ∷ (0x08, Php, Stack) ∷ (0x0B, Phd, Stack) ∷ (0x0C, Tsb, Absolute) ∷
    (0x10, Bpl, Relative) ∷ (0x14, Trb, Direct) ∷ (0x18, Clc, Implied) ∷ (0x1B, Tcs, Implied) ∷ (0x1C, Trb, Absolute) ∷
    (0x20, Jsr, Absolute) ∷ (0x22, Jsl, Long) ∷ (0x24, Bit, Direct) ∷ (0x28, Plp, Stack) ∷ (0x2B, Pld, Stack) ∷ (0x2C, Bit, Absolute) ∷
    (0x30, Bmi, Relative) ∷ (0x34, Bit, DirectX) ∷ (0x38, Sec, Implied) ∷ (0x3B, Tsc, Implied) ∷ (0x3C, Bit, AbsoluteX) ∷
    (0x40, Rti, Stack) ∷ (0x42, Wdm, Immediate) ∷ (0x44, Mvp, BlockMove) ∷ (0x48, Pha, Stack) ∷ (0x4B, Phk, Stack) ∷ (0x4C, Jmp, Absolute) ∷
    (0x50, Bvc, Relative) ∷ (0x54, Mvn, BlockMove) ∷ (0x58, Cli, Implied) ∷ (0x5A, Phy, Stack) ∷ (0x5B, Tcd, Implied) ∷ (0x5C, Jmp, Long) ∷
    (0x60, Rts, Stack) ∷ (0x62, Per, RelativeLong) ∷ (0x64, Stz, Direct) ∷ (0x68, Pla, Stack) ∷ (0x6B, Rtl, Stack) ∷ (0x6C, Jmp, AbsolutePointer) ∷
    (0x70, Bvs, Relative) ∷ (0x74, Stz, DirectX) ∷ (0x78, Sei, Implied) ∷ (0x7A, Ply, Stack) ∷ (0x7B, Tdc, Implied) ∷ (0x7C, Jmp, AbsoluteXPointer) ∷
    (0x80, Bra, Relative) ∷ (0x82, Brl, RelativeLong) ∷ (0x84, Sty, Direct) ∷ (0x86, Stx, Direct) ∷ (0x88, Dey, Implied) ∷ (0x89, Bit, Immediate) ∷
    (0x8A, Txa, Implied) ∷ (0x8B, Phb, Stack) ∷ (0x8C, Sty, Absolute) ∷ (0x8E, Stx, Absolute) ∷
    (0x90, Bcc, Relative) ∷ (0x94, Sty, DirectX) ∷ (0x96, Stx, DirectY) ∷ (0x98, Tya, Implied) ∷ (0x9A, Txs, Implied) ∷ (0x9B, Txy, Implied) ∷
    (0x9C, Stz, Absolute) ∷ (0x9E, Stz, AbsoluteX) ∷
    (0xA0, Ldy, Immediate) ∷ (0xA2, Ldx, Immediate) ∷ (0xA4, Ldy, Direct) ∷ (0xA6, Ldx, Direct) ∷ (0xA8, Tay, Implied) ∷ (0xAA, Tax, Implied) ∷
    (0xAB, Plb, Stack) ∷ (0xAC, Ldy, Absolute) ∷ (0xAE, Ldx, Absolute) ∷
    (0xB0, Bcs, Relative) ∷ (0xB4, Ldy, DirectX) ∷ (0xB6, Ldx, DirectY) ∷ (0xB8, Clv, Implied) ∷ (0xBA, Tsx, Implied) ∷ (0xBB, Tyx, Implied) ∷
    (0xBC, Ldy, AbsoluteX) ∷ (0xBE, Ldx, AbsoluteY) ∷
    (0xC0, Cpy, Immediate) ∷ (0xC2, Rep, Immediate) ∷ (0xC4, Cpy, Direct) ∷ (0xC8, Iny, Implied) ∷ (0xCA, Dex, Implied) ∷ (0xCB, Wai, Implied) ∷
    (0xCC, Cpy, Absolute) ∷
    (0xD0, Bne, Relative) ∷ (0xD4, Pei, Stack) ∷ (0xD8, Cld, Implied) ∷ (0xDA, Phx, Stack) ∷ (0xDB, Stp, Implied) ∷ (0xDC, Jmp, AbsoluteLongPointer) ∷
    (0xE0, Cpx, Immediate) ∷ (0xE2, Sep, Immediate) ∷ (0xE4, Cpx, Direct) ∷ (0xE8, Inx, Implied) ∷ (0xEA, Nop, Implied) ∷ (0xEB, Xba, Implied) ∷
    (0xEC, Cpx, Absolute) ∷
    (0xF0, Beq, Relative) ∷ (0xF4, Pea, Stack) ∷ (0xF8, Sed, Implied) ∷ (0xFA, Plx, Stack) ∷ (0xFB, Xce, Implied) ∷ (0xFC, Jsr, AbsoluteXPointer) ∷ []

-- one operation at each of the places
abbrev pub at_places : ℕ × Op → List (ℕ × Mode) → List Entry
at_places base ps = map (λ place. (base.0 + place.0, base.1, place.1)) ps

-- each operation at each of the places
abbrev pub crossed : List (ℕ × Op) → List (ℕ × Mode) → List Entry
crossed [] ps = []
crossed (base ∷ bs) ps = at_places base ps ++ crossed bs ps

-- the whole matrix; where an opcode stands twice, the first entry holds
unfoldable pub matrix : List Entry
matrix = others ++ on_a ++ crossed change_bases change_places ++ crossed bases places

-- the first entry of an opcode
unfoldable pub first_entry : ℕ → List Entry → Option Row
first_entry opcode [] = None
first_entry opcode (e ∷ es) = if opcode == e.0 then Some (record { op = e.1; mode = e.2 }) else first_entry opcode es

-- what an opcode means
unfoldable pub row_of : ℕ → Option Row
row_of opcode = first_entry opcode matrix
