use Rattle.std.proofs.Common.{rules, refl}
use Rattle.console_steps.specs.ConsoleState.{console_start}
use Rattle.console_machine.specs.Side.{ConsoleValue}
use Rattle.console_machine.specs.AfterStep.{starts_at}
use Rattle.console_machine.proofs.side.ConsoleSide.new.Goals as goal

pub invariant_of-result : goal.invariant_of-result
invariant_of-result c =
    let value : ConsoleValue = record { cpu = c.new-2.result; rest = c.in_ok-bus.bus; region = c.args.job.now.region; stamp = 0; waiting = c.in-Ok.waiting.items } in
    let job = c.args.job.now in (
      ∣ (console_start job.cart job.script job.region, starts_at value job.cart job.script job.region c.new-2.ensures c.in_ok-bus.ensures refl refl) ∣₁,
      search rules,
      search rules,
    )
