use Rattle.std.proofs.Common.{◌≡◌, ◌≢◌, ◌+◌, ◌*◌, ◌^◌, ◌≤◌, ℕ, List, length}
use Rattle.snes_defs.specs.declared.ports.Side.{Side}
use Rattle.snes_defs.specs.declared.ports.Side.TheVariants.{Sound}
use Rattle.spc_player.specs.Play.{Playing}
use Rattle.spc_player.specs.Player.{IsPlaying, stamp_of, waiting_of}
use Rattle.spc_player.proofs.Pairs.{HasPlayed}
use Rattle.spc_player.proofs.player.Player.play.Given as goal

abbrev pub invariant-samples : goal.invariant-samples
invariant-samples g l = record {
  played : (w : Playing) → IsPlaying l.initial.self w → HasPlayed l.self (g.K.Sink.holds l.initial.sink Sound) (g.K.Sink.holds l.sink Sound) w l.k;
  few : length (waiting_of l.self) ≤ 4004;
  early : stamp_of l.self ≤ 2 ^ 60 + 3780000 * l.k;
  room : length l.buffer ≡ 4096;
  other : (other : Side) (had : List ℕ) → other ≢ Sound → g.K.Sink.holds l.initial.sink other had → g.K.Sink.holds l.sink other had;
  only : g.K.Sink.only_takes l.initial.sink l.sink;
}
