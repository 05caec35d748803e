use Rattle.std.specs.Prelude.{◌≡◌, ◌^◌, ◌-◌, ℕ}
use Rattle.snes_defs.specs.declared.region.Region.TheVariants.{Ntsc}
use Rattle.audio_side.specs.Clock.{stamp_now}
use Rattle.spc_player.specs.Play.{Playing, IsNear}
use Rattle.spc_player.specs.Player.{IsPlaying, at}
use Rattle.spc_player.proofs.Steps.{HasRun}
use Rattle.spc_player.proofs.player.run_before.Given as goal

-- some of the steps were made
abbrev pub invariant-steps : goal.invariant-steps
invariant-steps l = record {
  run : (w : Playing) (n : ℕ) → IsPlaying (at l.initial.side l.fn.ports) w → IsNear w l.end n → HasRun (at l.initial.side l.fn.ports) (at l.side l.bytes.incoming) w n;
  first : l.bytes.first ≡ 2 ^ 64 - 1;
  hold : l.bytes.hold ≡ 2 ^ 64 - 1;
  ntsc : l.side.clock.region ≡ Ntsc;
}

abbrev pub decreases-steps : goal.decreases-steps
decreases-steps l = l.end - stamp_now l.side.clock
