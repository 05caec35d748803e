use Rattle.std.proofs.Common.{arith}
use Rattle.whole_instructions.proofs.Fetches.{inside}
use Rattle.whole_instructions.proofs.code.Code.operand.Goals as goal

pub load-requires : goal.load-requires
load-requires c =
    let few = c.requires.number in
    inside c.args.bus.now c.args.regs.now c.args.self.at c.args.self.clocks c.args.number c.requires.code (omega (arith, few))
