use Rattle.std.proofs.Common.{◌≡◌, ◌≤◌, []}
use Rattle.port_wire.specs.Reach.{IsInReach}
use Rattle.turn_rows.proofs.runs.turns_to.Given as goal

abbrev pub invariant-turns : goal.invariant-turns
invariant-turns g l =
    let wire = g.W.Wire in
    record {
      of : wire.is_whole_of l.wire l.whole;
      console_region : l.console.state.region ≡ wire.region_of l.wire;
      sound_region : l.sound.state.region ≡ wire.region_of l.wire;
      console_clock : (wire.both l.whole).console.at ≤ l.console.state.stamp;
      sound_clock : (wire.both l.whole).sound.at ≤ l.sound.state.stamp;
      console_reach : IsInReach (wire.region_of l.wire) l.console.state.stamp (wire.both l.whole).console;
      sound_reach : IsInReach (wire.region_of l.wire) l.sound.state.stamp (wire.both l.whole).sound;
      console_empty : l.console.waiting ≡ [];
      sound_empty : l.sound.waiting ≡ [];
    }
