use Rattle.std.proofs.Common.{refl, arith}
use Rattle.whole_instructions.proofs.Pushes.{wide_pull}
use Rattle.whole_instructions.proofs.stack.pull_word.Goals as goal

pub returns-clause-made : goal.returns-clause-made
returns-clause-made c = λ _.
    let left = c.clocks_left.ensures.clocks in
    let fits = c.if-all-clocks_left.false in
    rw (c.finish_load.ensures, c.pull_on-2.ensures, c.pull_on.ensures, c.pass.ensures.registers, c.pass.ensures.told, c.joined.ensures, c.load-low.ensures, c.load-high.ensures)
    (wide_pull c.args.bus.now c.args.regs.now c.args.code.at c.args.code.clocks c.args.first.at c.args.first.clocks c.args.next.at c.args.next.clocks _ c.args.row.op c.args.row.mode c.args.width
    c.requires.code c.requires.row c.requires.pulls c.requires.wide c.requires.first c.requires.next refl (omega (arith, left, fits)))
