use Rattle.std.proofs.Common.{refl, ◌∙◌}
use Rattle.cpu_modes.specs.Remaining.{remaining}
use Rattle.cpu65816.specs.Stands.{access_of}
use Rattle.cpu65816.proofs.Moves.{Stands-after_access, gets_byte-inner, onward-gets_byte}
use Rattle.cpu65816.proofs.processor.Cpu.took_at.Goals as goal

pub took_at-has_ended-requires-clause-fits : goal.took_at-has_ended-requires-clause-fits
took_at-has_ended-requires-clause-fits c = onward-gets_byte c.args.self.now.kept c.args.self.now.irq_level (remaining c.args.self.now.micro) c.requires.gets

pub returns : goal.returns
returns c = λ s h. Stands-after_access c.args.self.now _ s c.args.byte (gets_byte-inner (access_of c.args.self.now) c.requires.gets) (c.settle.ensures.left ∙ c.took_at-has_ended.ensures.left) (c.settle.ensures.start ∙ c.took_at-has_ended.ensures.start) refl refl refl h
