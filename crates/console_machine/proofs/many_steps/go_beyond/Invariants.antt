use Rattle.std.proofs.Common.{◌≡◌, ◌+◌, ◌≤◌}
use Rattle.console_machine.specs.Rounds.{GoesOver}
use Rattle.console_machine.proofs.many_steps.go_beyond.Given as goal

abbrev pub invariant-places : goal.invariant-places
invariant-places l = record {
  few : l.before + l.gone ≤ 1364;
  goes : GoesOver l.initial.bus l.bus l.round l.gone;
  last : l.bus.last ≡ l.initial.bus.last;
}
