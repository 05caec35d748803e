use Rattle.std.proofs.Common.{ℕ, ◌+◌, refl, sym, ap, ◌∙◌, arith}
use Rattle.console_bus.specs.Places.{on_bus}
use Rattle.console_steps.specs.AtOnce.{gone_on}
use Rattle.whole_instructions.proofs.Beams.{nearer_by}
use Rattle.whole_instructions.proofs.RegisterWrites.{register_store}
use Rattle.whole_instructions.proofs.stores.write_register.Goals as goal

pub put_register-requires : goal.put_register-requires
put_register-requires c =
    let left = c.clocks_left.ensures.clocks in
    let fits = c.if-all-clocks_left.false in
    let bus = c.args.bus.now in
    let near = nearer_by bus.picture.registers.settings.overscan bus.beam (c.args.code.clocks + c.args.reached.clocks) (omega (arith, left, fits)) in
    let gone = near.left in
    rw c.pass.ensures.told (omega (arith, left, fits, gone))

pub returns-clause-made : goal.returns-clause-made
returns-clause-made c = λ _.
    let left = c.clocks_left.ensures.clocks in
    let fits = c.if-all-clocks_left.false in
    let bus = c.args.bus.now in
    let all = c.args.code.clocks + c.args.reached.clocks in
    let there = c.pass.ensures.told in
    rw c.pass.ensures.registers
    (register_store bus c.pass.new.bus c.put_register.new.bus c.args.regs.now c.args.code.at c.args.code.clocks c.args.reached.clocks c.args.reached.operands c.args.reached.at c.args.reached.last
    c.in-Some.register all c.low_byte-v.result c.args.row.op c.args.row.mode c.args.reach c.args.width c.requires.code c.requires.row c.requires.writes c.requires.narrow c.requires.reaches
    refl (omega (arith, left, fits)) there (c.in-Some.ensures.place bus.board) c.in-Some.ensures.lasts (sym c.is_port.ensures ∙ c.if-is_port.false)
    (rw (c.low_byte-v.ensures, c.operand_written.ensures, c.pass.ensures.registers) refl) c.put_register.ensures)
