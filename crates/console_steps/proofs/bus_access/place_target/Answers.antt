use Rattle.console_steps.proofs.bus_access.place_target.Goals as goal

pub returns-in-BBus-clause-target : goal.returns-in-BBus-clause-target
returns-in-BBus-clause-target c = rw c.in-BBus.is (c.register_target.ensures.target c.args.bus.now.board)

pub returns-in-BBus-clause-within : goal.returns-in-BBus-clause-within
returns-in-BBus-clause-within c = c.register_target.ensures.within c.args.bus.now.board
