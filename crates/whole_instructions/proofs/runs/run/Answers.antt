use Rattle.whole_instructions.proofs.Wholes.{no_run, run_on, run_stays}
use Rattle.whole_instructions.proofs.runs.run.Goals as goal

pub instructions-init : goal.instructions-init
instructions-init c = record { run = no_run c.args.regs.now c.args.bus.now }

pub instructions-preserved : goal.instructions-preserved
instructions-preserved c = record { run = run_on _ _ _ _ _ _ c.instructions.invariant.run (c.instruction.ensures.made c.if-not-instruction.false) }

pub returns-then-not-instruction : goal.returns-then-not-instruction
returns-then-not-instruction c = run_stays _ _ _ _ _ _ c.instructions.invariant.run (c.instruction.ensures.stays c.if-not-instruction.true).0 (c.instruction.ensures.stays c.if-not-instruction.true).1
