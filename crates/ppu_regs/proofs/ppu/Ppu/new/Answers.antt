-- A unit of zeros is in range, and is the start.
use Rattle.ppu_regs.proofs.Zeros.{is_start, starts_in_range}
use Rattle.ppu_regs.proofs.ppu.Ppu.new.Goals as goal

pub invariant_of-result : goal.invariant_of-result
invariant_of-result c = starts_in_range _ _ _ _ _ c.start.ensures c.in_ok-vram.ensures c.no_colours.ensures c.new.ensures

pub returns : goal.returns
returns c = record { start = is_start _ _ _ _ _ c.start.ensures c.in_ok-vram.ensures c.no_colours.ensures c.new.ensures }
