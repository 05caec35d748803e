use Rattle.std.proofs.Common.{sym}
use Rattle.spc_modes.specs.declared.place.Place.{Place}
use Rattle.audio_side.proofs.Follows.{access_at, follows_write}
use Rattle.audio_side.proofs.instructions.last_write.Goals as goal

pub returns-in_ok-put_at : goal.returns-in_ok-put_at
returns-in_ok-put_at c =
    let put = c.in_ok-put_at.ensures in
    follows_write c.args.spc.now c.wrote_last.new.self c.args.hardware.now c.put_at.new.hardware c.args.left.now c.put_at.new.left
    (c.args.spc.now.micro.base) (c.args.spc.now.micro.byte) c.base.result (c.last_byte.result) (access_at c.args.spc.now Place.WriteLast (sym c.in-WriteLast.ensures))
    c.base.ensures c.last_byte.ensures put.timer put.made put.quiet put.stored c.wrote_last.ensures
