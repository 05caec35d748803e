use Rattle.std.proofs.Common.{refl, arith}
use Rattle.whole_instructions.proofs.DataReads.{narrow_load}
use Rattle.whole_instructions.proofs.loads.read_byte.Goals as goal

pub returns-clause-made : goal.returns-clause-made
returns-clause-made c = λ _.
    let left = c.clocks_left.ensures.clocks in
    let fits = c.if-all-clocks_left.false in
    rw (c.finish_load.ensures, c.pass.ensures.registers, c.pass.ensures.told, c.load-byte.ensures)
    (narrow_load c.args.bus.now c.args.regs.now c.args.code.at c.args.code.clocks c.args.reached.clocks c.args.reached.operands c.args.reached.at c.args.reached.last c.args.low.at c.args.low.clocks _
    c.args.row.op c.args.row.mode c.args.reach c.args.width c.requires.code c.requires.row c.requires.reads c.requires.narrow c.requires.reaches c.requires.low refl (omega (arith, left, fits)))
