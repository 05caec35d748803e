use Rattle.spc700.proofs.Moves.{Stands-moved_on}
use Rattle.spc700.proofs.processor.Spc.took.Goals as goal

pub returns : goal.returns
returns c = λ s h. Stands-moved_on c.args.self.now c.advance_by.new.self s c.args.byte h c.advance_by.ensures
