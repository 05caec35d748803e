use Rattle.std.proofs.Common.{◌≡◌, ◌+◌, ◌-◌, ◌*◌, ◌≤◌, []}
use Rattle.pair_run.specs.Leg.{IsBeside}
use Rattle.turn_drive.proofs.Going.{IsGoing}
use Rattle.turn_drive.proofs.turn_run.run_turns.Given as goal

abbrev pub invariant-loop-ends : goal.invariant-loop-ends
invariant-loop-ends g l =
    let C = g.C.Machine in
    let S = g.S.Machine in
    let W = g.W.Wire in
    record {
      going : (c : C.State) (s : S.State) → C.stands l.fn.console c → S.stands l.fn.sound s
          → IsGoing C.moves S.moves c s l.ends.near l.turns (C.stands l.console.value) (S.stands l.sound.value) (W.both l.whole) (g.K.Sink.holds l.sink);
      of : W.is_whole_of l.wire l.whole;
      console : IsBeside (W.region_of l.wire) (C.region_of l.console.value) (C.stamp_of l.console.value) (W.both l.whole).console;
      sound : IsBeside (W.region_of l.wire) (S.region_of l.sound.value) (S.stamp_of l.sound.value) (W.both l.whole).sound;
      console_empty : C.waiting l.console.value ≡ [];
      sound_empty : S.waiting l.sound.value ≡ [];
      to_end : l.ends.end ≡ l.end;
      few : l.turns ≤ 2 * l.end;
      only : g.K.Sink.only_takes l.initial.sink l.sink;
    }

-- the turns that are left, and the stamps from the near end to the end
abbrev pub decreases-loop-ends : goal.decreases-loop-ends
decreases-loop-ends g l = (2 * l.end - l.turns) + (l.end - l.ends.near)
