use Rattle.file_shelf.proofs.LoadLemmas.{only_counts}
use Rattle.file_shelf.proofs.disk.FileShelfShelf.load.Goals as goal

pub returns-in-Err-Fault-clause-only : goal.returns-in-Err-Fault-clause-only
returns-in-Err-Fault-clause-only g c = only_counts c.args.self.now c.count_load-in-Err-Fault.new.self c.count_load-in-Err-Fault.ensures

pub returns-in-Err-clause-only : goal.returns-in-Err-clause-only
returns-in-Err-clause-only g c = only_counts c.args.self.now c.count_load.new.self c.count_load.ensures
