use Rattle.std.proofs.Common.{◌≡◌, ◌+◌}
use Rattle.beam.specs.Places.{clocks_left}
use Rattle.console_steps.specs.ConsoleState.{ConsoleState}
use Rattle.console_steps.specs.Stands.{IsAt}
use Rattle.console_steps.specs.Plain.{IsWired, IsCalm}
use Rattle.console_machine.specs.Runs.{LooksTo}
use Rattle.console_machine.specs.Rounds.{GoesOn}
use Rattle.console_machine.proofs.many_steps.make_rounds.Given as goal

abbrev pub invariant-looks : goal.invariant-looks
invariant-looks l = record {
  sum : l.gone + clocks_left l.bus.beam ≡ clocks_left l.fn.bus.beam;
  calm : IsCalm l.bus;
  looks : (w : ConsoleState) → IsAt l.initial.cpu l.fn.bus w → LooksTo l.cpu l.bus w l.gone;
  goes : GoesOn l.initial.cpu l.cpu l.fn.bus l.bus l.gone;
  wired : (w : ConsoleState) → IsAt l.initial.cpu l.fn.bus w → IsWired l.cpu l.bus;
}
