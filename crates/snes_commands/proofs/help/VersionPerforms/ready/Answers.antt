use Rattle.run_io.specs.Form.{order_by}
use Rattle.run_io.specs.Line.{version_text}
use Rattle.snes_commands.proofs.HelpLemmas.{text_can}
use Rattle.snes_commands.proofs.help.VersionPerforms.ready.Goals as goal

pub returns-clause-makes : goal.returns-clause-makes
returns-clause-makes c = λ told reads. text_can version_text (order_by c.args._asked.now) told
