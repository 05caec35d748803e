use Rattle.frame_sums_laws.proofs.TextBack.{text_back}
use Rattle.frame_sums_laws.proofs.written.what_sums_writes_is_read.Goals as goal

pub returns : goal.returns
returns c = λ region frames video audio few. text_back region video audio frames few
