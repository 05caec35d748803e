use Rattle.processor_laws.proofs.InterruptLemmas.{brings_back-nmi}
use Rattle.processor_laws.proofs.interrupts.return_brings_back_from_nmi.Goals as goal

pub returns : goal.returns
returns c = brings_back-nmi
