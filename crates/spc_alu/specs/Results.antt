-- An operation's results, by what it gets. Where a table names no operation, nothing changes. Source: nocash
-- fullsnes, "SNES APU SPC700 CPU Load/Store Commands", "ALU Commands", "Jump/Control Commands".
use Rattle.std.specs.Prelude.{ℕ, true, false, not, ◌+◌, ◌%◌, bit_and, bit_or, bit_xor}
use Rattle.status_bits.specs.StatusBits.{flag}
use Rattle.spc_tables.specs.declared.flags.TheConstants.{CARRY, DIRECT_PAGE, HALF_CARRY, INTERRUPT_ENABLE, OVERFLOW}
use Rattle.spc_tables.specs.declared.mode.SpcMode.{SpcMode}
use Rattle.spc_tables.specs.declared.operation.SpcOp.{SpcOp}
use Rattle.spc_tables.specs.declared.operation.SpcOp.TheVariants.{MovA, MovX, MovY, StoreA, StoreX, StoreY, MovAX, MovAY, MovXA, MovYA, MovXSp, MovSpX, Or, And, Eor, Cmp, CmpX, CmpY, Adc, Sbc, Asl, Rol, Lsr, Ror, Dec, Inc, DecX, IncX, DecY, IncY, MovwYa, Addw, Subw, Cmpw, Mul, Div, Daa, Das, Xcn, Set1, Clr1, Tset1, Tclr1, Clrp, Setp, Clrc, Setc, Notc, Clrv, Ei, Di, PushA, PushX, PushY, PushPsw, PopA, PopX, PopY, PopPsw}
use Rattle.spc_tables.specs.declared.regs.SpcRegs.{SpcRegs}
use Rattle.spc_alu.specs.Arithmetic.{multiply, divide, decimal_adjust, decimal_adjust_down, exchange_digits}
use Rattle.spc_alu.specs.Bits.{bit_number, put_bit}
use Rattle.spc_alu.specs.Changes.{result_nz, shift_left, shift_right, rotate_left, rotate_right, increment, decrement, set_bits, clear_bits}
use Rattle.spc_alu.specs.Status.{load_a, load_x, load_y, with_flag}
use Rattle.spc_alu.specs.Sums.{add, subtract, compare}
use Rattle.spc_alu.specs.Words.{load_ya, add_word, subtract_word, compare_word}
use Rattle.spc_alu.specs.declared.changes.Changed.{Changed}

-- a value that stays, with PSW
abbrev pub unchanged : ℕ → ℕ → Changed
unchanged psw m = record { value = m; psw = psw }

-- BETWEEN TWO OPERANDS: the first, which takes the result, is A or a byte of memory. CMP leaves it.
unfoldable pub combined : SpcOp → ℕ → ℕ → ℕ → Changed
combined Or psw first second = result_nz (bit_or first second) psw
combined And psw first second = result_nz (bit_and first second) psw
combined Eor psw first second = result_nz (bit_xor first second) psw
combined Adc psw first second = add psw first second
combined Sbc psw first second = subtract psw first second
combined Cmp psw first second = record { value = first; psw = compare psw first second }
combined _ psw first second = unchanged psw first

-- A takes a changed value
abbrev pub with_a : SpcRegs → Changed → SpcRegs
with_a r c = record r { a = c.value; psw = c.psw }

-- A REGISTER AND A BYTE that was read
unfoldable pub loaded : SpcOp → SpcRegs → ℕ → SpcRegs
loaded MovA r m = load_a r m
loaded MovX r m = load_x r m
loaded MovY r m = load_y r m
loaded CmpX r m = record r { psw = compare r.psw r.x m }
loaded CmpY r m = record r { psw = compare r.psw r.y m }
loaded op r m = with_a r (combined op r.psw r.a m)

-- A BYTE THAT IS CHANGED, in memory or in A. SET1 and CLR1 set no flag.
unfoldable pub changed : SpcOp → SpcMode → ℕ → ℕ → Changed
changed Asl mode psw m = shift_left psw m
changed Lsr mode psw m = shift_right psw m
changed Rol mode psw m = rotate_left psw m
changed Ror mode psw m = rotate_right psw m
changed Inc mode psw m = increment psw m
changed Dec mode psw m = decrement psw m
changed Set1 mode psw m = unchanged psw (put_bit m (bit_number mode) true)
changed Clr1 mode psw m = unchanged psw (put_bit m (bit_number mode) false)
changed _ mode psw m = unchanged psw m

-- BY THE BITS OF A: TSET1 and TCLR1
unfoldable pub changed_by_a : SpcOp → SpcRegs → ℕ → Changed
changed_by_a Tset1 r m = set_bits r.a r.psw m
changed_by_a Tclr1 r m = clear_bits r.a r.psw m
changed_by_a _ r m = unchanged r.psw m

-- THE BYTE THAT IS STORED OR PUSHED
unfoldable pub stored : SpcOp → SpcRegs → ℕ
stored StoreA r = r.a
stored StoreX r = r.x
stored StoreY r = r.y
stored PushA r = r.a
stored PushX r = r.x
stored PushY r = r.y
stored PushPsw r = r.psw
stored _ r = 0

-- A BYTE THAT WAS PULLED: no flag but those of PSW itself
unfoldable pub popped : SpcOp → SpcRegs → ℕ → SpcRegs
popped PopA r m = record r { a = m }
popped PopX r m = record r { x = m }
popped PopY r m = record r { y = m }
popped PopPsw r m = record r { psw = m }
popped _ r m = r

-- YA AND A WORD that was read
unfoldable pub word_loaded : SpcOp → SpcRegs → ℕ → SpcRegs
word_loaded MovwYa r w = load_ya r w
word_loaded Addw r w = add_word r w
word_loaded Subw r w = subtract_word r w
word_loaded Cmpw r w = compare_word r w
word_loaded _ r w = r

-- INSIDE THE PROCESSOR: registers and flags alone
unfoldable pub internal : SpcOp → SpcMode → SpcRegs → SpcRegs
-- transfers
internal MovAX _ r = load_a r r.x
internal MovAY _ r = load_a r r.y
internal MovXA _ r = load_x r r.a
internal MovYA _ r = load_y r r.a
internal MovXSp _ r = load_x r r.sp
internal MovSpX _ r = record r { sp = r.x }
-- shifts and counts
internal Asl mode r = with_a r (changed Asl mode r.psw r.a)
internal Lsr mode r = with_a r (changed Lsr mode r.psw r.a)
internal Rol mode r = with_a r (changed Rol mode r.psw r.a)
internal Ror mode r = with_a r (changed Ror mode r.psw r.a)
internal Inc mode r = with_a r (changed Inc mode r.psw r.a)
internal Dec mode r = with_a r (changed Dec mode r.psw r.a)
internal IncX _ r = load_x r ((r.x + 1) % 256)
internal IncY _ r = load_y r ((r.y + 1) % 256)
internal DecX _ r = load_x r ((r.x + 255) % 256)
internal DecY _ r = load_y r ((r.y + 255) % 256)
-- multiplication, division, decimal digits
internal Mul _ r = multiply r
internal Div _ r = divide r
internal Daa _ r = decimal_adjust r
internal Das _ r = decimal_adjust_down r
internal Xcn _ r = exchange_digits r
-- flags
internal Clrp _ r = with_flag r DIRECT_PAGE false
internal Setp _ r = with_flag r DIRECT_PAGE true
internal Clrc _ r = with_flag r CARRY false
internal Setc _ r = with_flag r CARRY true
internal Notc _ r = with_flag r CARRY (not (flag r.psw CARRY))
internal Clrv _ r = with_flag (with_flag r OVERFLOW false) HALF_CARRY false
internal Ei _ r = with_flag r INTERRUPT_ENABLE true
internal Di _ r = with_flag r INTERRUPT_ENABLE false
internal _ _ r = r
