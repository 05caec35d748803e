use Rattle.console_bus.proofs.Stretches.{first_of_stretch}
use Rattle.console_bus.proofs.address_map.AddressMap.memory_within.Goals as goal

pub returns-clause-memory : goal.returns-clause-memory
returns-clause-memory c = first_of_stretch c.before.args.self.now.board c.before.args.self.now.fast c.before.args.addr _ c.stretch_within.ensures.stretch
