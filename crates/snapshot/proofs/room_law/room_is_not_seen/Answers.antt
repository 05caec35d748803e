use Rattle.snapshot.proofs.Rooms.{room_unseen}
use Rattle.snapshot.proofs.room_law.room_is_not_seen.Goals as goal

pub returns : goal.returns
returns c = room_unseen
