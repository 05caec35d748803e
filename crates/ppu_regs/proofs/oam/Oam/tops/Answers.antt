-- The Y of each object is that of its bytes.
use Rattle.std.proofs.Common.{subst}
use Rattle.ppu_regs.specs.Tops.{AreTops}
use Rattle.ppu_regs.proofs.oam.Oam.tops.Goals as goal

pub returns : goal.returns
unfolding AreTops
returns c = subst (λ oam. AreTops c.self.inside.tops oam) c.self.view_is c.self.invariant
