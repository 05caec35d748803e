use Rattle.std.proofs.Common.{◌≡◌, []}
use Rattle.side_law.specs.Serial.{SerialState}
use Rattle.serial_console.specs.Serial.{IsAt, console_of, sound_of}
use Rattle.console_steps.specs.ConsoleState.{ConsoleState}
use Rattle.console_machine.specs.Side as console_side
use Rattle.audio_side.specs.Sound.{SoundState}
use Rattle.audio_side.specs.Sound as sound_side
use Rattle.job_player.specs.Sounded.{onward}
use Rattle.job_player.proofs.onward.go_to_moment.Given as goal

-- so many turns were made, and no byte is pending
abbrev pub invariant-turns : goal.invariant-turns
invariant-turns l = record {
  stands : (w : SerialState ConsoleState SoundState) → IsAt console_side.StandsAt sound_side.StandsAt l.initial.serial w
      → IsAt console_side.StandsAt sound_side.StandsAt l.serial (onward w l.turns);
  no_video : (console_of l.serial).waiting ≡ [];
  no_audio : (sound_of l.serial).waiting ≡ [];
}
