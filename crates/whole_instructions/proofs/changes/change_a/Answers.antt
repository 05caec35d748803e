use Rattle.std.proofs.Common.{refl, arith}
use Rattle.whole_instructions.proofs.Cycles.{change_a_made}
use Rattle.whole_instructions.proofs.changes.change_a.Goals as goal

pub returns-clause-made : goal.returns-clause-made
returns-clause-made g c = λ _.
    let left = c.clocks_left.ensures.clocks in
    let fits = c.if-clocks-clocks_left.false in
    rw (c.finish_change.ensures, c.pass.ensures.registers, c.pass.ensures.told, c.opcode-opcode.ensures, c.OP.ensures)
    (change_a_made c.args.bus.now c.args.regs.now c.args.at c.args.clocks _ _ _ c.requires.code c.requires.row g.L.Change.changes refl (omega (arith, left, fits)))
