-- What each opcode of the SPC700 means: an operation and its operands, by the columns of the opcode matrix
-- (nocash fullsnes, "SNES APU SPC700 CPU Load/Store Commands", "ALU Commands", "Jump/Control Commands").
use Rattle.std.specs.Prelude.{ℕ, List, [], ◌∷◌, ◌+◌, ◌*◌, ◌++◌, ◌==◌, map, Option, Some, None, if◌then◌else◌}
use Rattle.spc_tables.specs.declared.mode.SpcMode.{SpcMode}
use Rattle.spc_tables.specs.declared.mode.SpcMode.TheVariants.{Implied, Accumulator, Immediate, Direct, DirectX, DirectY, Absolute, AbsoluteX, AbsoluteY, IndirectX, IndirectXIncrement, DirectXPointer, DirectPointerY, DirectImmediate, DirectDirect, IndirectXIndirectY, DirectBit, DirectBitRelative, MemoryBit, Relative, DirectRelative, DirectXRelative, YRelative, AbsoluteXPointer, HighPage, VectorTable, Stack}
use Rattle.spc_tables.specs.declared.opcode.SpcRow.{SpcRow}
use Rattle.spc_tables.specs.declared.operation.SpcOp.{SpcOp}
use Rattle.spc_tables.specs.declared.operation.SpcOp.TheVariants.{Nop, Mov, MovA, MovX, MovY, StoreA, StoreX, StoreY, MovAX, MovAY, MovXA, MovYA, MovXSp, MovSpX, Or, And, Eor, Cmp, CmpX, CmpY, Adc, Sbc, Asl, Rol, Lsr, Ror, Dec, Inc, DecX, IncX, DecY, IncY, MovwYa, StoreYa, Addw, Subw, Cmpw, Decw, Incw, Mul, Div, Daa, Das, Xcn, Set1, Clr1, Tset1, Tclr1, Or1, OrNot1, And1, AndNot1, Eor1, MovC1, StoreC1, Not1, Clrp, Setp, Clrc, Setc, Notc, Clrv, Ei, Di, Bpl, Bmi, Bvc, Bvs, Bcc, Bcs, Bne, Beq, Bra, Bbs, Bbc, Cbne, Dbnz, Jmp, Call, Pcall, Tcall, Brk, Ret, Reti, PushA, PushX, PushY, PushPsw, PopA, PopX, PopY, PopPsw, Sleep, Stop}

-- an opcode with what it means
abbrev pub Entry : Type 0
Entry = ℕ × SpcOp × SpcMode

-- COLUMN 1: in row n a call by vector n.
abbrev pub vector_calls : List ℕ → List Entry
vector_calls numbers = map (λ n. (16 * n + 0x01, Tcall, VectorTable n)) numbers

-- COLUMNS 2 AND 3: in the even rows 2k a bit k is set, or a branch is taken where it is set; in the odd rows 2k + 1 it is
-- cleared, or the branch is taken where it is clear.
abbrev pub bits_set : List ℕ → List Entry
bits_set numbers = map (λ k. (32 * k + 0x02, Set1, DirectBit k)) numbers

abbrev pub bits_cleared : List ℕ → List Entry
bits_cleared numbers = map (λ k. (32 * k + 0x12, Clr1, DirectBit k)) numbers

abbrev pub branches_on_set : List ℕ → List Entry
branches_on_set numbers = map (λ k. (32 * k + 0x03, Bbs, DirectBitRelative k)) numbers

abbrev pub branches_on_clear : List ℕ → List Entry
branches_on_clear numbers = map (λ k. (32 * k + 0x13, Bbc, DirectBitRelative k)) numbers

-- COLUMNS 4 TO 9 in rows 0 to B: six operations, each with the first of its two rows.
abbrev pub bases : List (ℕ × SpcOp)
bases = (0x00, Or) ∷ (0x20, And) ∷ (0x40, Eor) ∷ (0x60, Cmp) ∷ (0x80, Adc) ∷ (0xA0, Sbc) ∷ []

-- What is added to it for the operands: in the even row, and in the odd row.
abbrev pub places : List (ℕ × SpcMode)
places =
    (0x04, Direct) ∷ (0x05, Absolute) ∷ (0x06, IndirectX) ∷ (0x07, DirectXPointer) ∷ (0x08, Immediate) ∷ (0x09, DirectDirect) ∷
    (0x14, DirectX) ∷ (0x15, AbsoluteX) ∷ (0x16, AbsoluteY) ∷ (0x17, DirectPointerY) ∷ (0x18, DirectImmediate) ∷ (0x19, IndirectXIndirectY) ∷ []

-- COLUMNS B AND C in rows 0 to B: the six operations that change a byte, each with the first of its two rows.
abbrev pub change_bases : List (ℕ × SpcOp)
change_bases = (0x00, Asl) ∷ (0x20, Rol) ∷ (0x40, Lsr) ∷ (0x60, Ror) ∷ (0x80, Dec) ∷ (0xA0, Inc) ∷ []

abbrev pub change_places : List (ℕ × SpcMode)
change_places = (0x0B, Direct) ∷ (0x1B, DirectX) ∷ (0x0C, Absolute) ∷ (0x1C, Accumulator) ∷ []

-- COLUMNS 4 TO 9, B AND C in rows C to F: moves, and what else stands among them.
unfoldable pub moves : List Entry
moves =
    (0xC4, StoreA, Direct) ∷ (0xC5, StoreA, Absolute) ∷ (0xC6, StoreA, IndirectX) ∷ (0xC7, StoreA, DirectXPointer) ∷
    (0xC8, CmpX, Immediate) ∷ (0xC9, StoreX, Absolute) ∷ (0xCB, StoreY, Direct) ∷ (0xCC, StoreY, Absolute) ∷
    (0xD4, StoreA, DirectX) ∷ (0xD5, StoreA, AbsoluteX) ∷ (0xD6, StoreA, AbsoluteY) ∷ (0xD7, StoreA, DirectPointerY) ∷
    (0xD8, StoreX, Direct) ∷ (0xD9, StoreX, DirectY) ∷ (0xDB, StoreY, DirectX) ∷ (0xDC, DecY, Implied) ∷
    (0xE4, MovA, Direct) ∷ (0xE5, MovA, Absolute) ∷ (0xE6, MovA, IndirectX) ∷ (0xE7, MovA, DirectXPointer) ∷
    (0xE8, MovA, Immediate) ∷ (0xE9, MovX, Absolute) ∷ (0xEB, MovY, Direct) ∷ (0xEC, MovY, Absolute) ∷
    (0xF4, MovA, DirectX) ∷ (0xF5, MovA, AbsoluteX) ∷ (0xF6, MovA, AbsoluteY) ∷ (0xF7, MovA, DirectPointerY) ∷
    (0xF8, MovX, Direct) ∷ (0xF9, MovX, DirectY) ∷ (0xFB, MovY, DirectX) ∷ (0xFC, IncY, Implied) ∷ []

-- COLUMNS 0, A, D, E AND F, row by row.
unfoldable pub others : List Entry
others =
    (0x00, Nop, Implied) ∷ (0x0A, Or1, MemoryBit) ∷ (0x0D, PushPsw, Stack) ∷ (0x0E, Tset1, Absolute) ∷ (0x0F, Brk, Stack) ∷
    (0x10, Bpl, Relative) ∷ (0x1A, Decw, Direct) ∷ (0x1D, DecX, Implied) ∷ (0x1E, CmpX, Absolute) ∷ (0x1F, Jmp, AbsoluteXPointer) ∷
    (0x20, Clrp, Implied) ∷ (0x2A, OrNot1, MemoryBit) ∷ (0x2D, PushA, Stack) ∷ (0x2E, Cbne, DirectRelative) ∷ (0x2F, Bra, Relative) ∷
    (0x30, Bmi, Relative) ∷ (0x3A, Incw, Direct) ∷ (0x3D, IncX, Implied) ∷ (0x3E, CmpX, Direct) ∷ (0x3F, Call, Absolute) ∷
    (0x40, Setp, Implied) ∷ (0x4A, And1, MemoryBit) ∷ (0x4D, PushX, Stack) ∷ (0x4E, Tclr1, Absolute) ∷ (0x4F, Pcall, HighPage) ∷
    (0x50, Bvc, Relative) ∷ (0x5A, Cmpw, Direct) ∷ (0x5D, MovXA, Implied) ∷ (0x5E, CmpY, Absolute) ∷ (0x5F, Jmp, Absolute) ∷
    (0x60, Clrc, Implied) ∷ (0x6A, AndNot1, MemoryBit) ∷ (0x6D, PushY, Stack) ∷ (0x6E, Dbnz, DirectRelative) ∷ (0x6F, Ret, Stack) ∷
    (0x70, Bvs, Relative) ∷ (0x7A, Addw, Direct) ∷ (0x7D, MovAX, Implied) ∷ (0x7E, CmpY, Direct) ∷ (0x7F, Reti, Stack) ∷
    (0x80, Setc, Implied) ∷ (0x8A, Eor1, MemoryBit) ∷ (0x8D, MovY, Immediate) ∷ (0x8E, PopPsw, Stack) ∷ (0x8F, Mov, DirectImmediate) ∷
    (0x90, Bcc, Relative) ∷ (0x9A, Subw, Direct) ∷ (0x9D, MovXSp, Implied) ∷ (0x9E, Div, Implied) ∷ (0x9F, Xcn, Implied) ∷
    (0xA0, Ei, Implied) ∷ (0xAA, MovC1, MemoryBit) ∷ (0xAD, CmpY, Immediate) ∷ (0xAE, PopA, Stack) ∷ (0xAF, StoreA, IndirectXIncrement) ∷
    (0xB0, Bcs, Relative) ∷ (0xBA, MovwYa, Direct) ∷ (0xBD, MovSpX, Implied) ∷ (0xBE, Das, Implied) ∷ (0xBF, MovA, IndirectXIncrement) ∷
    (0xC0, Di, Implied) ∷ (0xCA, StoreC1, MemoryBit) ∷ (0xCD, MovX, Immediate) ∷ (0xCE, PopX, Stack) ∷ (0xCF, Mul, Implied) ∷
    (0xD0, Bne, Relative) ∷ (0xDA, StoreYa, Direct) ∷ (0xDD, MovAY, Implied) ∷ (0xDE, Cbne, DirectXRelative) ∷ (0xDF, Daa, Implied) ∷
    (0xE0, Clrv, Implied) ∷ (0xEA, Not1, MemoryBit) ∷ (0xED, Notc, Implied) ∷ (0xEE, PopY, Stack) ∷ (0xEF, Sleep, Implied) ∷
    (0xF0, Beq, Relative) ∷ (0xFA, Mov, DirectDirect) ∷ (0xFD, MovYA, Implied) ∷ (0xFE, Dbnz, YRelative) ∷ (0xFF, Stop, Implied) ∷ []

-- one operation with each of the operands
abbrev pub at_places : ℕ × SpcOp → List (ℕ × SpcMode) → List Entry
at_places base ps = map (λ place. (base.0 + place.0, base.1, place.1)) ps

-- each operation with each of the operands
abbrev pub crossed : List (ℕ × SpcOp) → List (ℕ × SpcMode) → List Entry
crossed [] ps = []
crossed (base ∷ bs) ps = at_places base ps ++ crossed bs ps

abbrev pub eight : List ℕ
eight = 0 ∷ 1 ∷ 2 ∷ 3 ∷ 4 ∷ 5 ∷ 6 ∷ 7 ∷ []

abbrev pub sixteen : List ℕ
sixteen = eight ++ 8 ∷ 9 ∷ 10 ∷ 11 ∷ 12 ∷ 13 ∷ 14 ∷ 15 ∷ []

-- the whole matrix, where each opcode stands once
unfoldable pub matrix : List Entry
matrix =
    others ++ moves ++ crossed bases places ++ crossed change_bases change_places ++
    vector_calls sixteen ++ bits_set eight ++ bits_cleared eight ++ branches_on_set eight ++ branches_on_clear eight

-- the entry of an opcode
unfoldable pub entry_of : ℕ → List Entry → Option SpcRow
entry_of opcode [] = None
entry_of opcode (e ∷ es) = if opcode == e.0 then Some (record { op = e.1; mode = e.2 }) else entry_of opcode es

-- what an opcode means
unfoldable pub row_of : ℕ → Option SpcRow
row_of opcode = entry_of opcode matrix
