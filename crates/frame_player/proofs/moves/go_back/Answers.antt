use Rattle.frame_player.proofs.Standing.{back_so}
use Rattle.frame_player.proofs.moves.go_back.Goals as goal

pub returns : goal.returns
returns c = record {
  back = λ told h lt. back_so told c.args.rewind.now c.back.new.self c.args.slot h lt c.back.ensures.back c.back.ensures.slots;
}
