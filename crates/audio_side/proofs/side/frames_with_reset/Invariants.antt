use Rattle.std.proofs.Common.{◌≡◌}
use Rattle.audio_side.specs.Clock.{reset_frames}
use Rattle.audio_side.proofs.side.frames_with_reset.Given as goal

abbrev pub invariant-frames : goal.invariant-frames
invariant-frames l = l.frames.items ≡ reset_frames l.script.resets l.frame
