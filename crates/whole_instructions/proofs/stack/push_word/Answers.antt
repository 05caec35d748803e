use Rattle.std.proofs.Common.{refl, arith}
use Rattle.whole_instructions.proofs.Pushes.{wide_push}
use Rattle.whole_instructions.proofs.stack.push_word.Goals as goal

pub returns-clause-made : goal.returns-clause-made
returns-clause-made c = λ _.
    let left = c.clocks_left.ensures.clocks in
    let fits = c.if-all-clocks_left.false in
    rw (c.finish.ensures, c.push_on-2.ensures, c.push_on.ensures, c.pass.ensures.registers, c.pass.ensures.told, c.write-2.ensures.written, c.write.ensures.written)
    (wide_push c.args.bus.now c.args.regs.now c.args.code.at c.args.code.clocks c.args.first.at c.args.first.clocks c.args.next.at c.args.next.clocks _ c.high_byte.result c.low_byte-v.result c.args.row.op c.args.row.mode c.args.width
    c.requires.code c.requires.row c.requires.pushes c.requires.wide c.requires.first c.requires.next refl (omega (arith, left, fits))
    (rw (c.high_byte.ensures, c.operand_written-word.ensures, c.passed.ensures) refl) (rw (c.low_byte-v.ensures, c.operand_written-word.ensures, c.passed.ensures) refl))
