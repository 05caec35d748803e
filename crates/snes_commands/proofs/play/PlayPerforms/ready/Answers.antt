use Rattle.run_io.specs.Form.{order_by}
use Rattle.snes_commands.proofs.PlayLemmas.{play_can}
use Rattle.snes_commands.proofs.play.PlayPerforms.ready.Goals as goal

pub returns-clause-ready : goal.returns-clause-ready
returns-clause-ready c = λ told reads. (
  c.args.inputs.0,
  c.args.inputs.1,
  record { image_is = reads.0; table_is = reads.1 },
  c.in_ok-player.ensures.starts,
  c.in_ok-player.ensures.at_zero,
  c.in_ok-player.ensures.empty,
)

pub returns-clause-makes : goal.returns-clause-makes
returns-clause-makes c = λ told reads. play_can (order_by c.args._asked.now) told c.args.inputs.0 c.args.inputs.1 (record { image_is = reads.0; table_is = reads.1 })
