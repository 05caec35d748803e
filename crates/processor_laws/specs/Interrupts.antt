-- What the laws of interrupts speak of: a handler that keeps its stack, and what RTI brings back.
use Rattle.std.specs.Prelude.{◌≡◌, ◌%◌, false}
use Rattle.cpu_tables.specs.Status.{size}
use Rattle.cpu_tables.specs.declared.flags.TheConstants.{INDEX_8}
use Rattle.cpu_tables.specs.declared.regs.Regs.{Regs}
use Rattle.cpu_modes.specs.Addresses.{stack, pulled}
use Rattle.processor_laws.specs.Outcomes.{Memory, Outcome}

-- A handler comes to its return in native mode with the stack as it got it: the stack pointer, and the four bytes that RTI pulls.
pub record KeepsFrame (taken : Outcome) (r : Regs) (m : Memory) : Type 0 where
  pub mode : r.e ≡ false
  pub pointer : r.s ≡ taken.registers.s
  pub first : m (stack (pulled r)) ≡ taken.memory (stack (pulled r))
  pub second : m (stack (pulled (pulled r))) ≡ taken.memory (stack (pulled (pulled r)))
  pub third : m (stack (pulled (pulled (pulled r)))) ≡ taken.memory (stack (pulled (pulled (pulled r))))
  pub fourth : m (stack (pulled (pulled (pulled (pulled r))))) ≡ taken.memory (stack (pulled (pulled (pulled (pulled r)))))

-- The program counter, its bank, the flags and the stack pointer of the interrupted program, and the other registers of the handler: of its indexes as much as the flags leave them.
abbrev pub brought_back : Regs → Regs → Regs
brought_back program handler = record handler {
  pc = program.pc;
  pbr = program.pbr;
  p = program.p;
  s = program.s;
  x = handler.x % size program.p INDEX_8;
  y = handler.y % size program.p INDEX_8;
}
