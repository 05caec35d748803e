use Rattle.frame_sums.specs.Compare.{run_pair, run_all}
use Rattle.frame_sums_laws.specs.RunSums.{run_sums}
use Rattle.frame_sums_laws.proofs.CertifiedLemmas.{none_found, no_other}
use Rattle.frame_sums_laws.proofs.certified.a_run_is_certified_by_its_own_sums.Goals as goal

pub returns-clause-none : goal.returns-clause-none
returns-clause-none c = λ region frames video audio. none_found region frames video audio

pub returns-clause-no_other : goal.returns-clause-no_other
returns-clause-no_other c = λ region frames video audio difference found.
    no_other (run_sums region frames video audio) frames (run_pair region video audio) (run_all video audio) difference (none_found region frames video audio) found
