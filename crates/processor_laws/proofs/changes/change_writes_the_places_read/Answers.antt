use Rattle.processor_laws.proofs.ChangeLemmas.{change_writes_places_read}
use Rattle.processor_laws.proofs.changes.change_writes_the_places_read.Goals as goal

pub returns : goal.returns
returns c = change_writes_places_read
