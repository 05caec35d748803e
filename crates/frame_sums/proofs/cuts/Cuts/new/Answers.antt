use Rattle.frame_sums.proofs.CutLemmas.{cut_none}
use Rattle.frame_sums.proofs.cuts.Cuts.new.Goals as goal

pub returns-clause-none : goal.returns-clause-none
returns-clause-none c = cut_none c.args.of c.in-Ok.rows.items c.size-left.result c.new.result c.new.ensures (λ lt. c.size-left.ensures.size)
