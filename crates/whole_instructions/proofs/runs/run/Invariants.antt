use Rattle.whole_instructions.specs.Runs.{IsRun}
use Rattle.whole_instructions.proofs.runs.run.Given as goal

abbrev pub invariant-instructions : goal.invariant-instructions
invariant-instructions l = record { run : IsRun l.initial.regs l.regs l.initial.bus l.bus }
