use Rattle.std.proofs.Common.{refl, ◌∙◌}
use Rattle.cpu65816.proofs.Moves.{Stands-after_cycle}
use Rattle.cpu65816.proofs.processor.Cpu.idle.Goals as goal

pub returns : goal.returns
returns c = λ s h. Stands-after_cycle c.args.self.now c.take_up.new.self _ s c.take_up.ensures (c.settle.ensures.left ∙ c.idle-has_ended.ensures.left) (c.settle.ensures.start ∙ c.idle-has_ended.ensures.start) refl refl refl h
