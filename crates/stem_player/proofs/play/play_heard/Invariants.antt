use Rattle.std.proofs.Common.{◌≡◌, ◌≢◌, ◌+◌, ◌*◌, ◌^◌, ◌≤◌, ℕ, List, []}
use Rattle.arrayvec.specs.ArrayVec.{array_vec_len}
use Rattle.snes_defs.specs.declared.ports.Side.{Side}
use Rattle.snes_defs.specs.declared.ports.Side.TheVariants.{Sound}
use Rattle.spc_player.specs.Play.{Playing}
use Rattle.spc_player.specs.Player.{IsPlaying, stamp_of, waiting_of}
use Rattle.stem_player.proofs.Gathered.{HasHeard}
use Rattle.stem_player.proofs.play.play_heard.Given as goal

abbrev pub invariant-samples : goal.invariant-samples
invariant-samples g l = record {
  heard : (w : Playing) → IsPlaying l.initial.player w → HasHeard l.fn.heard l.player l.buffer.items (g.K.Sink.holds l.initial.sink Sound) (g.K.Sink.holds l.sink Sound) w l.fn.samples l.k;
  empty : waiting_of l.player ≡ [];
  few : array_vec_len l.buffer ≤ 4096;
  early : stamp_of l.player ≤ 2 ^ 60 + 3780000 * l.k;
  other : (other : Side) (had : List ℕ) → other ≢ Sound → g.K.Sink.holds l.initial.sink other had → g.K.Sink.holds l.sink other had;
  only : g.K.Sink.only_takes l.initial.sink l.sink;
}
