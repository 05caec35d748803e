use Rattle.std.proofs.Common.{ℕ, ◌+◌, refl, ap, ◌∙◌, arith}
use Rattle.cpu_tables.specs.declared.regs.Regs.{Regs}
use Rattle.cpu_modes.specs.Orders.{data_at}
use Rattle.cpu_modes.specs.declared.place.Reach.{Reach}
use Rattle.console_bus.specs.Places.{on_bus}
use Rattle.console_steps.specs.AtOnce.{gone_on}
use Rattle.whole_instructions.specs.Fetching.{past}
use Rattle.whole_instructions.proofs.Befores.{stands_before}
use Rattle.whole_instructions.proofs.standing.before.Goals as goal

pub returns-clause-before : goal.returns-clause-before
returns-clause-before g c = λ _.
    let left = c.clocks_left.ensures.clocks in
    let fits = c.if-all-clocks_left.false in
    let bus = c.args.bus.now in
    let r = c.args.micro.now.here in
    let reached = c.in-Some.reached in
    let row = c.args.row in
    let there = c.pass.ensures.told in
    let remains = c.reach_data.ensures.left ∙ (ap (λ (q : Regs). data_at c.args.traffic c.SECOND.result row q reached.at) c.pass.ensures.registers
    ∙ ap (λ (s : Reach). data_at c.args.traffic s row (past r (reached.operands + 1)) reached.at) c.SECOND.ensures) in
    stands_before bus c.pass.new.bus r c.args.code.at c.args.code.clocks reached.clocks reached.operands reached.at reached.last _ row g.W.Way.MODE g.W.Way.SECOND c.args.traffic c.reach_data.new.self
    c.requires.code c.requires.row c.requires.order c.in-Some.ensures.reaches refl (omega (arith, left, fits)) there remains c.reach_data.ensures.start c.reach_data.ensures.keeps
