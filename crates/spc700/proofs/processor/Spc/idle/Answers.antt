use Rattle.spc700.proofs.Moves.{Stands-moved_on}
use Rattle.spc700.proofs.processor.Spc.idle.Goals as goal

pub returns : goal.returns
returns c = λ s h. Stands-moved_on c.args.self.now c.advance_idle.new.self s 0 h c.advance_idle.ensures
