use Rattle.ppu_objects.proofs.Lines.{zero_of}
use Rattle.ppu_objects.proofs.rows.clear_row.Goals as goal

pub returns : goal.returns
returns c x = zero_of 272 x
