use Rattle.run_io.specs.Form.{order_by}
use Rattle.run_io.specs.Line.{version_text}
use Rattle.snes_commands.specs.Loads.{told_in}
use Rattle.snes_commands.proofs.HelpLemmas.{text_whole}
use Rattle.snes_commands.proofs.help.VersionPerforms.fill.Goals as goal

pub returns-clause-whole : goal.returns-clause-whole
returns-clause-whole g c =
    let shows = g.H.Shelf.shown in
    text_whole version_text (order_by c.args._asked.now) (told_in (shows c.args._shelf.now) c.args._asked.now.pairs.now) (shows c.args._shelf.now).written c.version_line.result c.version_line.ensures.text
