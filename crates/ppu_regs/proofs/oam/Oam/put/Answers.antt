-- The Y of the object that is written is taken over.
use Rattle.ppu_regs.proofs.Tops.{tops_after}
use Rattle.ppu_regs.proofs.oam.Oam.put.Goals as goal

pub invariant_of-self : goal.invariant_of-self
invariant_of-self c = tops_after c.self.inside.tops c.self.inside.bytes c.put_bytes.new.oam c.args.port.now c.args.v c.self.told.1 c.self.invariant c.put_bytes.ensures.bytes
