use Rattle.processor_laws.proofs.DecimalSums.{decimal_difference_after}
use Rattle.processor_laws.proofs.decimal.decimal_subtraction.Goals as goal

pub returns-clause-digits : goal.returns-clause-digits
returns-clause-digits c =
    (decimal_difference_after c.args.mode c.args.regs c.args.word c.requires.decimal c.requires.digits_of_a c.requires.digits_of_operand).valid

pub returns-clause-difference : goal.returns-clause-difference
returns-clause-difference c =
    (decimal_difference_after c.args.mode c.args.regs c.args.word c.requires.decimal c.requires.digits_of_a c.requires.digits_of_operand).difference
