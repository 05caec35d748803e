use Rattle.std.proofs.Common.{refl, arith}
use Rattle.cpu_tables.specs.declared.mode.Mode.TheVariants.{Immediate}
use Rattle.whole_instructions.proofs.Cycles.{status_made}
use Rattle.whole_instructions.proofs.flow.status.Goals as goal

pub returns-clause-made : goal.returns-clause-made
returns-clause-made c = λ _.
    let left = c.clocks_left.ensures.clocks in
    let fits = c.if-clocks-clocks_left.false in
    rw (c.finish.ensures, c.pass.ensures.registers, c.pass.ensures.told, c.first-mask.ensures)
    (status_made c.args.bus.now c.args.regs.now c.args.at c.args.clocks _ c.args.op Immediate c.requires.code c.requires.row c.requires.uses refl (omega (arith, left, fits)))
