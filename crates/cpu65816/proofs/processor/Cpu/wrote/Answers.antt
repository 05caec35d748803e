use Rattle.std.proofs.Common.{refl, ◌∙◌}
use Rattle.cpu_modes.specs.Remaining.{remaining}
use Rattle.cpu65816.specs.Stands.{access_of}
use Rattle.cpu65816.proofs.Moves.{Stands-after_access, is_write-inner, onward-is_write}
use Rattle.cpu65816.proofs.processor.Cpu.wrote.Goals as goal

pub wrote-has_ended-requires : goal.wrote-has_ended-requires
wrote-has_ended-requires c = onward-is_write c.args.self.now.kept c.args.self.now.irq_level (remaining c.args.self.now.micro) c.requires

pub returns : goal.returns
returns c = λ s h. Stands-after_access c.args.self.now _ s 0 (is_write-inner (access_of c.args.self.now) c.requires) (c.settle.ensures.left ∙ c.wrote-has_ended.ensures.left) (c.settle.ensures.start ∙ c.wrote-has_ended.ensures.start) refl refl refl h
