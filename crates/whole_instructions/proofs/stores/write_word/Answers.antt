use Rattle.std.proofs.Common.{refl, arith}
use Rattle.whole_instructions.proofs.Writes.{wide_store}
use Rattle.whole_instructions.proofs.stores.write_word.Goals as goal

pub returns-clause-made : goal.returns-clause-made
returns-clause-made c = λ _.
    let left = c.clocks_left.ensures.clocks in
    let fits = c.if-all-clocks_left.false in
    rw (c.pass.ensures.registers, c.pass.ensures.told, c.write-2.ensures.written, c.write.ensures.written)
    (wide_store c.args.bus.now c.args.regs.now c.args.code.at c.args.code.clocks c.args.reached.clocks c.args.reached.operands c.args.reached.at c.args.reached.last c.args.low.at c.args.high.at c.args.low.clocks _ c.low_byte.result c.high_byte-v.result
    c.args.row.op c.args.row.mode c.args.reach c.args.width c.requires.code c.requires.row c.requires.writes c.requires.wide c.requires.reaches c.requires.low c.requires.high refl (omega (arith, left, fits))
    (rw (c.low_byte.ensures, c.operand_written-word.ensures, c.passed.ensures) refl) (rw (c.high_byte-v.ensures, c.operand_written-word.ensures, c.passed.ensures) refl))
