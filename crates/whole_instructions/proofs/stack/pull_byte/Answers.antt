use Rattle.std.proofs.Common.{refl, arith}
use Rattle.whole_instructions.proofs.Pushes.{narrow_pull}
use Rattle.whole_instructions.proofs.stack.pull_byte.Goals as goal

pub returns-clause-made : goal.returns-clause-made
returns-clause-made c = λ _.
    let left = c.clocks_left.ensures.clocks in
    let fits = c.if-all-clocks_left.false in
    rw (c.finish_load.ensures, c.pull_on.ensures, c.pass.ensures.registers, c.pass.ensures.told, c.load-byte.ensures)
    (narrow_pull c.args.bus.now c.args.regs.now c.args.code.at c.args.code.clocks c.args.first.at c.args.first.clocks _ c.args.row.op c.args.row.mode c.args.width
    c.requires.code c.requires.row c.requires.pulls c.requires.narrow c.requires.first refl (omega (arith, left, fits)))
