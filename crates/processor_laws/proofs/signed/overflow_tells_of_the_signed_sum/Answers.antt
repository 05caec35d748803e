use Rattle.processor_laws.proofs.SignedSums.{adc_right, adc_wrong}
use Rattle.processor_laws.proofs.signed.overflow_tells_of_the_signed_sum.Goals as goal

pub returns-clause-right : goal.returns-clause-right
returns-clause-right c = adc_right c.args.mode c.args.regs c.args.word c.requires.binary

pub returns-clause-wrong : goal.returns-clause-wrong
returns-clause-wrong c = adc_wrong c.args.mode c.args.regs c.args.word c.requires.binary
