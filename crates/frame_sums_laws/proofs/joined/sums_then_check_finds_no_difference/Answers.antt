use Rattle.std.proofs.Common.{◌≡◌, ℕ, Result, Ok, Err, ap, sym, ◌∙◌, subst}
use Rattle.frame_sums.specs.SumsFile.{SumsIn}
use Rattle.frame_sums.specs.Compare.{run_pair, run_all, IsFound}
use Rattle.frame_sums_laws.specs.RunSums.{run_sums}
use Rattle.frame_sums_laws.proofs.CertifiedLemmas.{only_none}
use Rattle.frame_sums_laws.proofs.TextBack.{text_back}
use Rattle.frame_sums_laws.proofs.joined.sums_then_check_finds_no_difference.Goals as goal

-- the sums that were read, or others where none were
abbrev read_or : SumsIn → Result SumsIn ℕ → SumsIn
read_or other (Ok file) = file
read_or other (Err line) = other

pub returns : goal.returns
returns c = λ region frames video audio file found few read is.
    let same : file ≡ run_sums region frames video audio = ap (λ r. read_or file r) (sym read ∙ text_back region video audio frames few) in
    only_none region frames video audio found (subst (λ f. IsFound f frames (run_pair region video audio) (run_all video audio) found) same is)
