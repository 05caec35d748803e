use Rattle.std.proofs.Common.{◌≡◌, ◌-◌, ◌≤◌, length}
use Rattle.side_law.specs.Gone.{IsOnWay}
use Rattle.audio_side.specs.Clock.{stamp_now}
use Rattle.audio_side.specs.Parts.{value_of}
use Rattle.audio_side.specs.Sound.{IsRunning, SoundState, StandsAt, sound_moves}
use Rattle.audio_side.proofs.parts.Parts.advance.Given as goal

abbrev pub invariant-steps : goal.invariant-steps
invariant-steps g l =
    let P = g.P.Ports in
    record {
      gone : (m : SoundState) (p : P.State) → StandsAt (value_of l.fn.self) m → P.stands l.fn.ports p
          → IsOnWay sound_moves P.calls l.until (StandsAt (value_of l.self)) (P.stands l.ports) l.fn.self.waiting.items l.self.waiting.items m p;
      forward : stamp_now l.fn.self.clock ≤ stamp_now l.self.clock;
      in_order : P.clock l.ports ≤ stamp_now l.self.clock;
      times : P.times l.ports ≡ P.times l.fn.ports;
      region : l.self.clock.region ≡ l.fn.self.clock.region;
      capacity : l.self.waiting.capacity ≡ 4096;
      fits : length l.self.waiting.items ≤ 4096;
      runs : IsRunning l.fn.self.spc → IsRunning l.self.spc;
    }

abbrev pub decreases-steps : goal.decreases-steps
decreases-steps g l = l.until - stamp_now l.self.clock
