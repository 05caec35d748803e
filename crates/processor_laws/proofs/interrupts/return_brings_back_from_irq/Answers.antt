use Rattle.processor_laws.proofs.InterruptLemmas.{brings_back-irq}
use Rattle.processor_laws.proofs.interrupts.return_brings_back_from_irq.Goals as goal

pub returns : goal.returns
returns c = brings_back-irq
