use Rattle.std.proofs.Common.{refl, arith}
use Rattle.whole_instructions.proofs.Cycles.{jump_made}
use Rattle.whole_instructions.proofs.flow.jump.Goals as goal

pub returns-clause-made : goal.returns-clause-made
returns-clause-made c = λ _.
    let left = c.clocks_left.ensures.clocks in
    let fits = c.if-clocks-clocks_left.false in
    rw (c.finish.ensures, c.pass.ensures.registers, c.pass.ensures.told, c.word-target.ensures, c.second-last.ensures)
    (jump_made c.args.bus.now c.args.regs.now c.args.at c.args.clocks _ c.requires.code c.requires.row refl (omega (arith, left, fits)))
