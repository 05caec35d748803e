use Rattle.beam.specs.declared.events.Event.TheVariants.{Draw}
use Rattle.console_steps.proofs.Beams.{kept_beam, row_size}
use Rattle.console_steps.proofs.passing.pass_row.Goals as goal

pub returns-then-comes-clause-beam : goal.returns-then-comes-clause-beam
returns-then-comes-clause-beam c = kept_beam c.args.bus.now c.draw_row.new.bus Draw c.draw_row.ensures.rest

pub returns-then-comes-clause-size : goal.returns-then-comes-clause-size
returns-then-comes-clause-size c = rw c.if-comes.true (row_size c.args.waiting.now.items c.draw_row.new.waiting.items c.args.bus.now c.draw_row.ensures.row)
