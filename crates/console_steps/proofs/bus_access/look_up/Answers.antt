use Rattle.std.proofs.Common.{ap, sym, ◌∙◌}
use Rattle.console_bus.specs.Places.{place_at}
use Rattle.console_steps.specs.Targets.{target_at}
use Rattle.console_steps.proofs.Targets.{memory_target}
use Rattle.console_steps.proofs.bus_access.look_up.Goals as goal

pub returns-in-Some-clause-target : goal.returns-in-Some-clause-target
returns-in-Some-clause-target c =
    let board = c.args.bus.now.board in
    memory_target board (place_at board c.args.addr) c.in-Some.access.at c.in-Some.ensures.place

pub returns-in-Some-bus_register-clause-target : goal.returns-in-Some-bus_register-clause-target
returns-in-Some-bus_register-clause-target c =
    let board = c.args.bus.now.board in
    c.register_target.ensures.target board ∙ ap (target_at board) (sym (c.in-Some-bus_register.ensures.place board))

pub returns-in-Some-bus_register-clause-within : goal.returns-in-Some-bus_register-clause-within
returns-in-Some-bus_register-clause-within c = c.register_target.ensures.within c.args.bus.now.board
