use Rattle.std.proofs.Common.{refl, ◌∙◌}
use Rattle.cpu_modes.specs.Remaining.{remaining}
use Rattle.cpu65816.specs.Stands.{access_of}
use Rattle.cpu65816.proofs.Moves.{Stands-after_access, is_write-inner, onward-is_write}
use Rattle.cpu65816.proofs.processor.Cpu.wrote_at.Goals as goal

pub wrote_at-has_ended-requires-clause-fits : goal.wrote_at-has_ended-requires-clause-fits
wrote_at-has_ended-requires-clause-fits c = onward-is_write c.args.self.now.kept c.args.self.now.irq_level (remaining c.args.self.now.micro) c.requires.writes

pub returns : goal.returns
returns c = λ s h. Stands-after_access c.args.self.now _ s 0 (is_write-inner (access_of c.args.self.now) c.requires.writes) (c.settle.ensures.left ∙ c.wrote_at-has_ended.ensures.left) (c.settle.ensures.start ∙ c.wrote_at-has_ended.ensures.start) refl refl refl h
