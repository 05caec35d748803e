-- Rooms that are as large as before stay so.
use Rattle.std.proofs.Common.{refl, ◌∙◌}
use Rattle.frame_player.specs.declared.frame_bytes.FrameBytes.{FrameBytes}
use Rattle.frame_player.specs.FrameBytes.{SameRooms}

pub rooms_stay : (a : FrameBytes) → SameRooms a a
rooms_stay a = record { video = refl; sound = refl }

pub rooms_then : (a b c : FrameBytes) → SameRooms a b → SameRooms b c → SameRooms a c
rooms_then a b c first then = record { video = then.video ∙ first.video; sound = then.sound ∙ first.sound }
