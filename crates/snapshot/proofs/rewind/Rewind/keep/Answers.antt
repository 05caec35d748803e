use Rattle.std.proofs.Common.{refl, ap}
use Rattle.snapshot.specs.declared.run.Run.{Run}
use Rattle.snapshot.proofs.Copying.{kept_rested, keeps_can}
use Rattle.snapshot.proofs.Stepping.{slot_waits}
use Rattle.snapshot.proofs.rewind.Rewind.keep.Goals as goal

pub copy_run-requires : goal.copy_run-requires
copy_run-requires c =
    let (job, n, paths, rested) = c.requires.rested in
    (keeps_can job n paths c.args.self.now c.args.slot c.index_mut.result.now c.requires.slot c.index_mut.ensures.value rested).0

pub returns-clause-kept : goal.returns-clause-kept
returns-clause-kept c = λ job n paths rested.
    kept_rested job n paths c.args.self.now _ c.args.slot c.index_mut.result.now c.copy_run.new.into c.requires.slot c.index_mut.ensures.value c.copy_run.ensures refl refl rested

pub returns-clause-waits : goal.returns-clause-waits
returns-clause-waits c = record {
  run = refl;
  slots = slot_waits c.args.self.now.slots.items c.args.slot c.index_mut.result.now c.copy_run.new.into c.requires.slot c.index_mut.ensures.value (ap (λ (v : Run). v.stepped) c.copy_run.ensures);
}
