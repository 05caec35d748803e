use Rattle.std.proofs.Common.{◌+◌, refl, ap, arith}
use mathlib.Core.Logic.{∥∥₁_map}
use Rattle.console_machine.specs.Parts.{value_of}
use Rattle.console_machine.specs.Side.{ConsoleValue}
use Rattle.console_machine.proofs.Runs.{run_is_silent, run_keeps, silent_none}
use Rattle.console_machine.proofs.parts.Parts.look_on.Goals as goal

pub returns-clause-gone : goal.returns-clause-gone
returns-clause-gone c = λ w h.
    let made = c.look_for_rounds-clocks in
    let all = c.line_stamps-2 in
    let value : ConsoleValue = record { cpu = made.new.cpu; rest = made.new.bus; region = c.args.self.now.region; stamp = c.args.self.now.stamp + all.result; waiting = c.args.self.now.waiting.items } in
    run_is_silent (value_of c.args.self.now) value w made.result c.args.until h
    (made.ensures.run w h.at h.console.line) refl (ap (λ n. c.args.self.now.stamp + n) all.ensures.value) (omega (arith, c.if-until-saturating_add.false, c.saturating_add.ensures, c.line_stamps.ensures.value, c.line_stamps.ensures.small, c.requires.early, all.ensures.most))

pub returns-clause-keeps : goal.returns-clause-keeps
returns-clause-keeps c = λ some.
    let made = c.look_for_rounds-clocks in
    let all = c.line_stamps-2 in
    let value : ConsoleValue = record { cpu = made.new.cpu; rest = made.new.bus; region = c.args.self.now.region; stamp = c.args.self.now.stamp + all.result; waiting = c.args.self.now.waiting.items } in
    ∥∥₁_map some (λ p. run_keeps (value_of c.args.self.now) value p.0 made.result p.1 (made.ensures.run p.0 p.1.at p.1.console.line) refl (ap (λ n. c.args.self.now.stamp + n) all.ensures.value))

pub returns-then-is_busy-clause-gone : goal.returns-then-is_busy-clause-gone
returns-then-is_busy-clause-gone c = λ w h. silent_none c.args.until (value_of c.args.self.now) w h

pub returns-then-until-saturating_add-clause-gone : goal.returns-then-until-saturating_add-clause-gone
returns-then-until-saturating_add-clause-gone c = λ w h. silent_none c.args.until (value_of c.args.self.now) w h
