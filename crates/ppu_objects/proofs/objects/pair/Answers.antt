use Rattle.std.proofs.Common.{arith}
use Rattle.ppu_objects.proofs.Pairs.{pair_is}
use Rattle.ppu_objects.proofs.objects.pair.Goals as goal

pub returns-clause-value : goal.returns-clause-value
returns-clause-value c = pair_is c.args.byte c.args.k (omega arith) (omega arith)
