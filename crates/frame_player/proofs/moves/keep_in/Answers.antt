use Rattle.frame_player.proofs.Standing.{kept_so}
use Rattle.frame_player.proofs.moves.keep_in.Goals as goal

pub returns : goal.returns
returns c = record {
  kept = λ told h lt. kept_so told c.args.rewind.now c.keep.new.self c.args.slot h lt c.keep.ensures.kept c.keep.ensures.slots;
}
