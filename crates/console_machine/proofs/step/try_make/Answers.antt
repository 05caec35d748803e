use Rattle.std.proofs.Common.{refl, arith}
use Rattle.std.proofs.lemmas.Option.{IfSome_then}
use Rattle.console_machine.proofs.AtOnce.{is_step, least_made, few_made}
use Rattle.console_machine.proofs.step.try_make.Goals as goal

pub returns-then-not-is_calm-clause-least : goal.returns-then-not-is_calm-clause-least
returns-then-not-is_calm-clause-least c = IfSome_then c.try_haul.result c.try_haul.ensures.lasts (λ n eight. omega (arith, eight))

pub returns-then-not-is_calm-clause-few : goal.returns-then-not-is_calm-clause-few
returns-then-not-is_calm-clause-few c = IfSome_then c.try_haul.result c.try_haul.ensures.lasts (λ n eight. omega (arith, eight))

pub returns-clause-made : goal.returns-clause-made
returns-clause-made c = IfSome_then c.try_next.result c.try_next.ensures.made (λ n m w at.
    let calm = c.if-not-is_calm.ensures refl in
    is_step c.args.cpu.now c.try_next.new.cpu c.args.bus.now c.try_next.new.bus w n at m calm.reset calm.refresh calm.transfer)

pub returns-clause-least : goal.returns-clause-least
returns-clause-least c = IfSome_then c.try_next.result c.try_next.ensures.made (λ n m. least_made c.args.cpu.now c.try_next.new.cpu c.args.bus.now c.try_next.new.bus n m)

pub returns-clause-few : goal.returns-clause-few
returns-clause-few c = IfSome_then c.try_next.result c.try_next.ensures.made (λ n m. few_made c.args.cpu.now c.try_next.new.cpu c.args.bus.now c.try_next.new.bus n m)
