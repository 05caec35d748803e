use Rattle.std.proofs.Common.{rules}
use Rattle.run_io.specs.Form.{order_by}
use Rattle.snes_commands.specs.Make.{IsImage}
use Rattle.snes_commands.proofs.MakeLemmas.{make_can}
use Rattle.snes_commands.proofs.make.MakePerforms.ready.Goals as goal

pub returns-clause-makes : goal.returns-clause-makes
returns-clause-makes c = λ told reads.
    let image : IsImage c.args.asked.now.number c.in_ok-bytes.bytes.items = search rules in
    make_can (order_by c.args.asked.now) told c.in_ok-bytes.bytes.items image
