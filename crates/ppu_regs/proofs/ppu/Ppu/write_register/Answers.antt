-- The unit stays in range.
use Rattle.std.proofs.Common.{subst, sym}
use Rattle.ppu_regs.specs.Picture.{AreInRange}
use Rattle.ppu_regs.proofs.Ranges.{write_keeps}
use Rattle.ppu_regs.proofs.ppu.Ppu.write_register.Goals as goal

pub invariant_of-self : goal.invariant_of-self
invariant_of-self c = record {
  registers = subst AreInRange (sym c.write.ensures) (write_keeps c.self.inside.registers c.args.reg c.args.v c.ranges.v.fits c.self.invariant.registers);
  vram_size = c.self.invariant.vram_size;
  cgram_size = c.self.invariant.cgram_size;
  oam_size = c.self.invariant.oam_size;
  colours = c.self.invariant.colours;
}
