use Rattle.std.proofs.Common.{◌≡◌, drop}
use Rattle.snes_defs.specs.Script.{is_reset}
use Rattle.audio_side.proofs.clock.CycleClock.has_reset.Given as goal

-- the frame is looked for among the resets that are left
abbrev pub invariant-loop-reset : goal.invariant-loop-reset
invariant-loop-reset l = is_reset l.self.resets l.frame ≡ is_reset (drop l.reset-index l.reset-items) l.frame
