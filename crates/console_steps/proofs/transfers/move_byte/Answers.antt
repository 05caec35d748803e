use Rattle.std.proofs.Common.{ap, ◌∙◌}
use Rattle.console_steps.proofs.Moves.{moved_beam}
use Rattle.console_steps.proofs.transfers.move_byte.Goals as goal

pub returns-clause-beam : goal.returns-clause-beam
returns-clause-beam c = ap (λ r. r.beam) c.make_move.ensures ∙ moved_beam c.args.bus.now c.args.due 0
