use Rattle.std.proofs.Common.{◌∙◌}
use Rattle.console_machine.proofs.side.ConsoleSideMachine.advance.Goals as goal

pub invariant_of-self : goal.invariant_of-self
invariant_of-self g c = (
  c.advance.ensures.keeps.0 c.self.invariant.0,
  c.advance.ensures.keeps.2 ∙ c.self.invariant.1,
  c.advance.ensures.fits,
)
