use Rattle.std.proofs.Common.{◌+◌, refl, ap}
use mathlib.Core.Logic.{∥∥₁_map}
use Rattle.console_machine.specs.Parts.{value_of}
use Rattle.console_machine.specs.Side.{ConsoleValue}
use Rattle.console_machine.proofs.Runs.{silent_step}
use Rattle.console_machine.proofs.parts.Parts.try_step.Goals as goal

pub returns-in-Some-clause-made : goal.returns-in-Some-clause-made
returns-in-Some-clause-made c = λ done w h.
    let value : ConsoleValue = record { cpu = c.try_make.new.cpu; rest = c.try_make.new.bus; region = c.args.self.now.region; stamp = c.args.self.now.stamp + c.stamps.result; waiting = c.args.self.now.waiting.items } in
    silent_step (value_of c.args.self.now) value w c.in-Some.clocks h (c.in-Some.ensures.made w h.at) refl (ap (λ n. c.args.self.now.stamp + n) c.stamps.ensures.value)

pub returns-in-Some-clause-keeps : goal.returns-in-Some-clause-keeps
returns-in-Some-clause-keeps c = λ some. ∥∥₁_map some (λ p. (_, (returns-in-Some-clause-made c refl p.0 p.1).now_stands))

pub returns-in-None-clause-keeps : goal.returns-in-None-clause-keeps
returns-in-None-clause-keeps c = λ some. rw (c.in-None.ensures.cpu_stays refl, c.in-None.ensures.bus_stays refl) some
