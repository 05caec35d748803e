use Rattle.std.proofs.Common.{refl}
use Rattle.serial_console.proofs.rest.RestPorts.emitted.Goals as goal

pub returns-clause-told : goal.returns-clause-told
returns-clause-told g c = λ p behind. record {
  to = record p { console_last = c.args.at };
  now_stands = record { sound = behind.sound; to_sound = behind.to_sound; to_console = behind.to_console; audio = behind.audio; end = behind.end; sound_last = behind.sound_last; console_last = refl };
  led = refl;
}
