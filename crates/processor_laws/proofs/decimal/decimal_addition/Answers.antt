use Rattle.processor_laws.proofs.DecimalSums.{decimal_sum_after}
use Rattle.processor_laws.proofs.decimal.decimal_addition.Goals as goal

pub returns-clause-digits : goal.returns-clause-digits
returns-clause-digits c =
    (decimal_sum_after c.args.mode c.args.regs c.args.word c.requires.decimal c.requires.digits_of_a c.requires.digits_of_operand).valid

pub returns-clause-sum : goal.returns-clause-sum
returns-clause-sum c =
    (decimal_sum_after c.args.mode c.args.regs c.args.word c.requires.decimal c.requires.digits_of_a c.requires.digits_of_operand).sum
