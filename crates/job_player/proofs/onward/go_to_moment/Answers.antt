use Rattle.std.proofs.Common.{rules, sym, subst}
use Rattle.serial_console.specs.Serial.{IsAt}
use Rattle.console_machine.specs.Side as console_side
use Rattle.audio_side.specs.Sound as sound_side
use Rattle.job_player.proofs.SoundLemmas.{onward_none, onward_more}
use Rattle.job_player.proofs.onward.go_to_moment.Goals as goal

pub turns-init : goal.turns-init
turns-init c = record {
  stands = λ w at. subst (IsAt console_side.StandsAt sound_side.StandsAt c.args.serial.now) (sym (onward_none w)) at;
  no_video = search rules;
  no_audio = search rules;
}

pub turns-preserved : goal.turns-preserved
turns-preserved c = record {
  stands = λ w at. onward_more w c.turns.serial c.silent_turn.new.serial c.turns.turns (c.turns.invariant.stands w at) c.silent_turn.ensures.turned;
  no_video = search rules;
  no_audio = search rules;
}
