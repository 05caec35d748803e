use Rattle.std.proofs.Common.{refl, ap}
use Rattle.snapshot.specs.declared.run.Run.{Run}
use Rattle.snapshot.proofs.Copying.{back_rested, keeps_can}
use Rattle.snapshot.proofs.rewind.Rewind.back.Goals as goal

pub copy_run-requires : goal.copy_run-requires
copy_run-requires c =
    let (job, n, paths, rested) = c.requires.rested in
    (keeps_can job n paths c.args.self.now c.args.slot c.index.result.now c.requires.slot c.index.ensures rested).1

pub returns-clause-back : goal.returns-clause-back
returns-clause-back c = λ job n paths rested.
    back_rested job n paths c.args.self.now _ c.args.slot c.index.result.now c.copy_run.new.into c.requires.slot c.index.ensures c.copy_run.ensures refl refl rested

pub returns-clause-waits : goal.returns-clause-waits
returns-clause-waits c = record { run = ap (λ (v : Run). v.stepped) c.copy_run.ensures; slots = λ k other. refl }
