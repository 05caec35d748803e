use Rattle.std.proofs.Common.{ap, ◌∙◌}
use Rattle.console_steps.proofs.Moves.{written_beam}
use Rattle.console_steps.proofs.plain.store_register.Goals as goal

pub returns-clause-beam : goal.returns-clause-beam
returns-clause-beam c = ap (λ r. r.beam) c.put.ensures ∙ ap (λ r. r.beam) c.write_register.ensures.written ∙ written_beam c.args.bus.now c.args.register c.args.v
