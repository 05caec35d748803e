use Rattle.recording_sizes.proofs.Runs.{path_size}
use Rattle.recording_sizes.proofs.sizes.a_path_has_its_size.Goals as goal

pub returns : goal.returns
returns c = path_size
