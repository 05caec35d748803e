use Rattle.free_files.proofs.Small.{all_small}
use Rattle.free_files.specs.Interpolation.{interpolation}
use Rattle.free_files.proofs.interpolation.interpolation_table.Goals as goal

pub of-requires : goal.of-requires
unfolding interpolation
of-requires c = all_small
