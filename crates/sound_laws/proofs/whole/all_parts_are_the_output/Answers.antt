use Rattle.sound_laws.proofs.AllParts.{whole}
use Rattle.sound_laws.proofs.whole.all_parts_are_the_output.Goals as goal

pub returns : goal.returns
returns c = whole
