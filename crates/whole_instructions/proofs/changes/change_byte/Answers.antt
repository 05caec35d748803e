use Rattle.std.proofs.Common.{refl, arith}
use Rattle.whole_instructions.proofs.Writes.{narrow_change}
use Rattle.whole_instructions.proofs.changes.change_byte.Goals as goal

pub returns-clause-made : goal.returns-clause-made
returns-clause-made c = λ _.
    let left = c.clocks_left.ensures.clocks in
    let fits = c.if-all-clocks_left.false in
    rw (c.finish_change.ensures, c.pass.ensures.registers, c.pass.ensures.told, c.write.ensures.written, c.load-got.ensures)
    (narrow_change c.args.bus.now c.args.regs.now c.args.code.at c.args.code.clocks c.args.reached.clocks c.args.reached.operands c.args.reached.at c.args.reached.last c.args.low.at c.args.low.clocks _ c.low_byte-v.result
    c.args.row.op c.args.row.mode c.args.reach _ c.requires.code c.requires.row c.requires.changes c.requires.narrow c.requires.reaches c.requires.low refl (omega (arith, left, fits))
    (rw (c.low_byte-v.ensures, c.operand_written.ensures, c.passed.ensures, c.load-got.ensures) refl))
