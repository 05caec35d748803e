use Rattle.processor_laws.proofs.BinarySums.{carry_after_cmp, zero_after_cmp}
use Rattle.processor_laws.proofs.order.comparison_tells_the_order.Goals as goal

pub returns-clause-carry : goal.returns-clause-carry
returns-clause-carry c = carry_after_cmp c.args.mode c.args.regs c.args.word

pub returns-clause-zero : goal.returns-clause-zero
returns-clause-zero c = zero_after_cmp c.args.mode c.args.regs c.args.word
