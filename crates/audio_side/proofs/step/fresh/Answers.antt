use Rattle.spc700.specs.Instruction.{at_reset}
use Rattle.audio_side.proofs.step.fresh.Goals as goal

pub returns-clause-runs : goal.returns-clause-runs
returns-clause-runs c = ∣ (at_reset c.args.pc, c.new.ensures) ∣₁
