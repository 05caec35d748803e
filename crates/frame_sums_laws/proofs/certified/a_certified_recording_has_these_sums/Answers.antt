use Rattle.frame_sums_laws.proofs.CertifiedLemmas.{has_sums}
use Rattle.frame_sums_laws.proofs.certified.a_certified_recording_has_these_sums.Goals as goal

pub returns : goal.returns
returns c = λ region frames video audio file none. has_sums region frames video audio file none
