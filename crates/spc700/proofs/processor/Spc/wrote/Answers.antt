use Rattle.spc700.proofs.Moves.{Stands-moved_on}
use Rattle.spc700.proofs.processor.Spc.wrote.Goals as goal

pub returns : goal.returns
returns c = λ s h. Stands-moved_on c.args.self.now c.advance_written.new.self s 0 h c.advance_written.ensures
