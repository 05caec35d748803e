use Rattle.snes_commands.proofs.Putting.{all_appended}
use Rattle.snes_commands.proofs.put_whole.put_whole.Goals as goal

pub returns-in_default-clause-prefix : goal.returns-in_default-clause-prefix
returns-in_default-clause-prefix g c =
    let shows = g.H.Shelf.shown in
    all_appended (shows c.args.shelf.now) (shows c.put.new.self) (shows c.flush.new.self) c.args.out c.args.bytes.now c.in_ok-put.ensures.appended c.flush.ensures.written
