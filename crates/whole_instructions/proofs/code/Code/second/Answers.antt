use Rattle.std.proofs.Common.{arith}
use Rattle.whole_instructions.proofs.Fetches.{inside}
use Rattle.whole_instructions.proofs.code.Code.second.Goals as goal

pub load-requires : goal.load-requires
load-requires c = inside c.args.bus.now c.args.regs.now c.args.self.at c.args.self.clocks 2 c.requires (omega arith)
