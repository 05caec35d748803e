use Rattle.std.proofs.Common.{rules, refl}
use Rattle.memory_player.proofs.Puts.{handed_some}
use Rattle.memory_player.proofs.filling.put_at.Goals as goal

pub returns-then-bytes-room-clause-some : goal.returns-then-bytes-room-clause-some
returns-then-bytes-room-clause-some c = λ had h.
    handed_some c.args.slice.now c.args.bytes.now c.copy_from_slice.new.self had c.args.count.now _ _ refl refl (search rules) (search rules) (search rules) h
