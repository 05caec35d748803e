-- The bits of a byte by their numbers, and the operations between C and a bit of memory (nocash fullsnes,
-- "SNES APU SPC700 CPU ALU Commands").
use Rattle.std.specs.Prelude.{ℕ, Bool, not, ◌&&◌, ◌||◌, ◌==◌, if◌then◌else◌}
use Rattle.status_bits.specs.StatusBits.{flag, put}
use Rattle.spc_tables.specs.declared.flags.TheConstants.{CARRY}
use Rattle.spc_tables.specs.declared.mode.SpcMode.{SpcMode}
use Rattle.spc_tables.specs.declared.mode.SpcMode.TheVariants.{DirectBit, DirectBitRelative}
use Rattle.spc_tables.specs.declared.operation.SpcOp.{SpcOp}
use Rattle.spc_tables.specs.declared.operation.SpcOp.TheVariants.{Or1, OrNot1, And1, AndNot1, Eor1, MovC1, StoreC1}
use Rattle.spc_tables.specs.declared.regs.SpcRegs.{SpcRegs}
use Rattle.spc_alu.specs.Status.{with_flag}

-- the weight of a bit by its number, 0 to 7
unfoldable pub weight : ℕ → ℕ
weight k =
    if k == 0 then 1 else if k == 1 then 2 else if k == 2 then 4 else if k == 3 then 8 else
    if k == 4 then 16 else if k == 5 then 32 else if k == 6 then 64 else 128

-- whether bit k of a byte is set
abbrev pub is_bit : ℕ → ℕ → Bool
is_bit m k = flag m (weight k)

-- a byte with bit k on or off
abbrev pub put_bit : ℕ → ℕ → Bool → ℕ
put_bit m k on = put m (weight k) on

-- the number of the bit that an opcode names
abbrev pub bit_number : SpcMode → ℕ
bit_number (DirectBit k) = k
bit_number (DirectBitRelative k) = k
bit_number _ = 0

abbrev pub differ : Bool → Bool → Bool
differ c bit = if c then not bit else bit

-- C after an operation between it and a bit of memory
unfoldable pub carry_after : SpcOp → Bool → Bool → Bool
carry_after Or1 c bit = c || bit
carry_after OrNot1 c bit = c || not bit
carry_after And1 c bit = c && bit
carry_after AndNot1 c bit = c && not bit
carry_after Eor1 c bit = differ c bit
carry_after MovC1 c bit = bit
carry_after _ c bit = c

-- the registers after it, by the byte that holds the bit
unfoldable pub with_bit_carry : SpcOp → SpcRegs → ℕ → ℕ → SpcRegs
with_bit_carry op r k m = with_flag r CARRY (carry_after op (flag r.psw CARRY) (is_bit m k))

-- the byte that is written back: of MOV1 with C as the bit, of NOT1 with the bit turned over
unfoldable pub bit_written : SpcOp → ℕ → ℕ → ℕ → ℕ
bit_written StoreC1 psw k m = put_bit m k (flag psw CARRY)
bit_written _ psw k m = put_bit m k (not (is_bit m k))
