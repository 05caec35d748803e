use Rattle.processor_laws.proofs.CallLemmas.{return_goes_on}
use Rattle.processor_laws.proofs.calls.return_goes_on_after_call.Goals as goal

pub returns : goal.returns
returns c = return_goes_on
