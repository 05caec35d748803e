-- The registers that are pushed and pulled: the opcodes that do it (as in spc_tables/specs/Opcodes.antt), and their byte.
use Rattle.std.specs.Prelude.{ℕ}
use Rattle.spc_tables.specs.declared.regs.SpcRegs.{SpcRegs}
use Rattle.processor_laws.specs.declared.pulls.Pushed.{Pushed}
use Rattle.processor_laws.specs.declared.pulls.Pushed.TheVariants.{A, X, Y, Status}

-- PUSH A, PUSH X, PUSH Y, PUSH PSW
abbrev pub push_opcode : Pushed → ℕ
push_opcode A = 0x2D
push_opcode X = 0x4D
push_opcode Y = 0x6D
push_opcode Status = 0x0D

-- POP A, POP X, POP Y, POP PSW
abbrev pub pull_opcode : Pushed → ℕ
pull_opcode A = 0xAE
pull_opcode X = 0xCE
pull_opcode Y = 0xEE
pull_opcode Status = 0x8E

-- the byte of the register
abbrev pub byte_of : Pushed → SpcRegs → ℕ
byte_of A r = r.a
byte_of X r = r.x
byte_of Y r = r.y
byte_of Status r = r.psw

-- the registers with this byte there
abbrev pub with_byte : Pushed → ℕ → SpcRegs → SpcRegs
with_byte A byte r = record r { a = byte }
with_byte X byte r = record r { x = byte }
with_byte Y byte r = record r { y = byte }
with_byte Status byte r = record r { psw = byte }
