use Rattle.std.proofs.Common.{refl, arith}
use Rattle.std.proofs.Common.{◌+◌, slice_index, sym}
use Rattle.cpu_tables.specs.declared.mode.Mode.TheVariants.{Relative}
use Rattle.whole_instructions.specs.Fetching.{past}
use Rattle.whole_instructions.proofs.Cycles.{branch_made}
use Rattle.whole_instructions.proofs.flow.branch.Goals as goal

pub returns-clause-made : goal.returns-clause-made
returns-clause-made g c = λ _.
    let left = c.clocks_left.ensures.clocks in
    let fits = c.if-all-clocks_left.false in
    rw (c.go.ensures, c.pass.ensures.registers, c.pass.ensures.told, c.first-offset.ensures, c.OP-2.ensures, sym (g.B.Branch.goes Relative (past c.args.regs.now 2) (slice_index c.args.bus.now.memory (c.args.at + 1))))
    (branch_made c.args.bus.now c.args.regs.now c.args.at c.args.clocks _ _ Relative c.requires.code c.requires.row g.B.Branch.branches (rw (c.branch_clocks.ensures, c.passed.ensures, c.first-offset.ensures, c.OP.ensures) refl) (omega (arith, left, fits)))
