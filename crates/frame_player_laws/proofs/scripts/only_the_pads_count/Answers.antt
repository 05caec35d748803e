use Rattle.frame_player_laws.proofs.SamePads.{same_pads}
use Rattle.frame_player_laws.proofs.scripts.only_the_pads_count.Goals as goal

pub returns : goal.returns
returns c = same_pads
