-- What the laws of calls speak of: a subroutine that keeps its stack, a program that goes on after a call.
use Rattle.std.specs.Prelude.{◌≡◌, ℕ, ◌+◌, ◌%◌}
use Rattle.cpu_tables.specs.declared.regs.Regs.{Regs}
use Rattle.cpu_modes.specs.Addresses.{stack, pulled}
use Rattle.processor_laws.specs.Outcomes.{Memory, Outcome}

-- A subroutine that was called comes to its return with the stack as it got it: the stack pointer and the mode are those after the call, and so are the two bytes that a return pulls first.
pub record KeepsStack (called : Outcome) (r : Regs) (m : Memory) : Type 0 where
  pub pointer : r.s ≡ called.registers.s
  pub mode : r.e ≡ called.registers.e
  pub first : m (stack (pulled r)) ≡ called.memory (stack (pulled r))
  pub second : m (stack (pulled (pulled r))) ≡ called.memory (stack (pulled (pulled r)))

-- the same with the three bytes that a return to any bank pulls
pub record KeepsFarStack (called : Outcome) (r : Regs) (m : Memory) : Type 0 where
  pub pointer : r.s ≡ called.registers.s
  pub mode : r.e ≡ called.registers.e
  pub first : m (stack (pulled r)) ≡ called.memory (stack (pulled r))
  pub second : m (stack (pulled (pulled r))) ≡ called.memory (stack (pulled (pulled r)))
  pub third : m (stack (pulled (pulled (pulled r)))) ≡ called.memory (stack (pulled (pulled (pulled r))))

-- the program goes on after the instruction of so many bytes that stood at r, with the stack pointer as it was there
pub record GoesOnAfter (size : ℕ) (r back : Regs) : Type 0 where
  pub counter : back.pc ≡ (r.pc + size) % 65536
  pub bank : back.pbr ≡ r.pbr
  pub pointer : back.s ≡ r.s
