use Rattle.processor_laws.specs.Flat.{run}
use Rattle.processor_laws.proofs.FlatRuns.{Matches}
use Rattle.processor_laws.proofs.flat.run.Given as goal

abbrev pub invariant-accesses : goal.invariant-accesses
invariant-accesses g l =
    let P = g.P.Processor in
    (s : P.State) → P.stands l.fn.processor s
    → Matches P.stands P.after_access l.processor l.memory (run P.after_access l.counter (record { processor = s; bytes = l.fn.memory }))
