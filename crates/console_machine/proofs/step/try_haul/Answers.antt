use Rattle.std.proofs.Common.{refl, sym}
use Rattle.console_machine.proofs.AtOnce.{is_moved}
use Rattle.console_machine.proofs.step.try_haul.Goals as goal

pub returns-then-try_move-clause-made : goal.returns-then-try_move-clause-made
returns-then-try_move-clause-made c = λ w at.
    is_moved c.args.cpu.now c.try_move.new.cpu c.args.bus.now c.try_move.new.bus w c.in_ok-due.due 8 at (c.if-try_move.ensures.made refl) refl
    (c.is_held.ensures.reset c.if-is_held.false) (c.is_held.ensures.refresh c.if-is_held.false) (sym c.in_ok-due.ensures)
