use Rattle.processor_laws.proofs.FlatRuns.{matches_at_first, matches_after_step}
use Rattle.processor_laws.proofs.flat.run.Goals as goal

pub accesses-init : goal.accesses-init
accesses-init g c = λ s h. matches_at_first g.P.Processor.stands g.P.Processor.after_access c.args.processor.now c.args.memory.now s h

pub accesses-preserved : goal.accesses-preserved
accesses-preserved g c = λ s h.
    matches_after_step g.P.Processor.stands g.P.Processor.after_access c.accesses.counter c.accesses.processor c.step.new.self c.accesses.memory c.step.new.memory
    (record { processor = s; bytes = c.args.memory.now }) (c.accesses.invariant s h) c.step.ensures.processor c.step.ensures.bytes
