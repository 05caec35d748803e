use Rattle.std.proofs.Common.{refl, arith}
use Rattle.std.proofs.Common.{ap, sym, ◌∙◌}
use Rattle.cpu_modes.specs.Addresses.{is_wide}
use Rattle.cpu_modes.specs.declared.uses.Width.{Width}
use Rattle.whole_instructions.proofs.DataReads.{narrow_immediate, wide_immediate}
use Rattle.whole_instructions.proofs.loads.immediate.Goals as goal

pub returns-then-not-is_wide-clause-made : goal.returns-then-not-is_wide-clause-made
returns-then-not-is_wide-clause-made g c = λ _.
    let left = c.clocks_left.ensures.clocks in
    let fits = c.if-clocks-clocks_left.false in
    rw (c.finish_load.ensures, c.pass.ensures.registers, c.pass.ensures.told, c.first-byte.ensures, c.OP.ensures)
    (narrow_immediate c.args.bus.now c.args.regs.now c.args.at c.args.clocks _ _ g.L.Load.WIDTH c.requires.code c.requires.row g.L.Load.reads (ap (λ (w : Width). is_wide w c.args.regs.now) (sym c.WIDTH.ensures) ∙ (sym c.is_wide.ensures ∙ c.if-not-is_wide.true)) refl (omega (arith, left, fits)))

pub returns-clause-made : goal.returns-clause-made
returns-clause-made g c = λ _.
    let left = c.clocks_left-2.ensures.clocks in
    let fits = c.if-clocks-clocks_left-2.false in
    rw (c.finish_load-2.ensures, c.pass-2.ensures.registers, c.pass-2.ensures.told, c.word-word.ensures, c.second-last.ensures, c.OP.ensures)
    (wide_immediate c.args.bus.now c.args.regs.now c.args.at c.args.clocks _ _ g.L.Load.WIDTH c.requires.code c.requires.row g.L.Load.reads (ap (λ (w : Width). is_wide w c.args.regs.now) (sym c.WIDTH.ensures) ∙ (sym c.is_wide.ensures ∙ c.if-not-is_wide.false)) refl (omega (arith, left, fits)))
