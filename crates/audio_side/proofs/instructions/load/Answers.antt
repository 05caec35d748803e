use Rattle.spc_tables.specs.declared.access.SpcAccess.TheVariants.{Read}
use Rattle.spc_modes.specs.declared.place.Place.{Place}
use Rattle.audio_side.proofs.Follows.{access_at, follows_got}
use Rattle.audio_side.proofs.instructions.load.Goals as goal

pub returns : goal.returns
returns c =
    let read = c.in_ok-byte.ensures in
    follows_got c.args.spc.now c.took_data.new.self c.args.hardware.now c.args.left.now c.data_byte.new.left c.in_ok-byte.byte (Read (c.args.spc.now.micro.base))
    (access_at c.args.spc.now Place.Load c.requires.known) read.gets read.made c.took_data.ensures
