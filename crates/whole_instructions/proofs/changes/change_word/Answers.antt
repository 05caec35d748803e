use Rattle.std.proofs.Common.{refl, arith}
use Rattle.whole_instructions.proofs.Writes.{wide_change}
use Rattle.whole_instructions.proofs.changes.change_word.Goals as goal

pub returns-clause-made : goal.returns-clause-made
returns-clause-made c = λ _.
    let left = c.clocks_left.ensures.clocks in
    let fits = c.if-all-clocks_left.false in
    rw (c.finish_change.ensures, c.pass.ensures.registers, c.pass.ensures.told, c.write-2.ensures.written, c.write.ensures.written, c.joined-got.ensures, c.load.ensures, c.load-2.ensures)
    (wide_change c.args.bus.now c.args.regs.now c.args.code.at c.args.code.clocks c.args.reached.clocks c.args.reached.operands c.args.reached.at c.args.reached.last c.args.low.at c.args.high.at c.args.low.clocks _ c.low_byte-v.result c.high_byte.result
    c.args.row.op c.args.row.mode c.args.reach _ c.requires.code c.requires.row c.requires.changes c.requires.wide c.requires.reaches c.requires.low c.requires.high refl (omega (arith, left, fits))
    (rw (c.low_byte-v.ensures, c.operand_written-word.ensures, c.passed.ensures, c.joined-got.ensures, c.load.ensures, c.load-2.ensures) refl)
    (rw (c.high_byte.ensures, c.operand_written-word.ensures, c.passed.ensures, c.joined-got.ensures, c.load.ensures, c.load-2.ensures) refl))
