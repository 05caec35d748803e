use Rattle.processor_laws.proofs.FarCallLemmas.{far_return_goes_on}
use Rattle.processor_laws.proofs.calls.far_return_goes_on_after_far_call.Goals as goal

pub returns : goal.returns
returns c = far_return_goes_on
