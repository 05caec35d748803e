-- The unit stays in range.
use Rattle.std.proofs.Common.{◌∙◌}
use Rattle.ppu_regs.proofs.ppu.Ppu.put_colour.Goals as goal

pub invariant_of-self : goal.invariant_of-self
invariant_of-self c = record {
  registers = record { mode = c.self.invariant.registers.mode; mosaic = c.self.invariant.registers.mosaic; brightness = c.self.invariant.registers.brightness; size_code = c.self.invariant.registers.size_code; gap = c.self.invariant.registers.gap; first_object = c.self.invariant.registers.first_object; oam_address = c.self.invariant.registers.oam_address; red = c.self.invariant.registers.red; green = c.self.invariant.registers.green; blue = c.self.invariant.registers.blue };
  vram_size = c.self.invariant.vram_size;
  cgram_size = c.write_byte.ensures.size ∙ c.self.invariant.cgram_size;
  oam_size = c.self.invariant.oam_size;
  colours = c.write_byte.ensures.small;
}
