-- Zeros have their Y side by side.
use Rattle.std.proofs.Common.{sym, subst}
use Rattle.ppu_regs.specs.Picture.{zeros}
use Rattle.ppu_regs.specs.Tops.{AreTops}
use Rattle.ppu_regs.proofs.Tops.{zeros_have_tops}
use Rattle.ppu_regs.proofs.oam.Oam.new.Goals as goal

pub invariant_of-result : goal.invariant_of-result
invariant_of-result c = subst (λ tops. AreTops tops c.no_bytes.result) (sym c.no_tops.ensures) (subst (AreTops (zeros 128)) (sym c.no_bytes.ensures) zeros_have_tops)
