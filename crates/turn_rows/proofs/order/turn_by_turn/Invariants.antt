use Rattle.std.proofs.Common.{◌≡◌, []}
use Rattle.serial_console.specs.Serial.{console_of, sound_of}
use Rattle.turn_rows.proofs.order.turn_by_turn.Given as goal

abbrev pub invariant-turns : goal.invariant-turns
invariant-turns g l = record {
  console_empty : g.C.Machine.waiting (console_of l.serial) ≡ [];
  sound_empty : g.S.Machine.waiting (sound_of l.serial) ≡ [];
}
