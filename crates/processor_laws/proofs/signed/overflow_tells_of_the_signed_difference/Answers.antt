use Rattle.processor_laws.proofs.SignedSums.{sbc_right, sbc_wrong}
use Rattle.processor_laws.proofs.signed.overflow_tells_of_the_signed_difference.Goals as goal

pub returns-clause-right : goal.returns-clause-right
returns-clause-right c = sbc_right c.args.mode c.args.regs c.args.word c.requires.binary

pub returns-clause-wrong : goal.returns-clause-wrong
returns-clause-wrong c = sbc_wrong c.args.mode c.args.regs c.args.word c.requires.binary
