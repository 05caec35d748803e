use Rattle.spc_tables.specs.declared.access.SpcAccess.TheVariants.{Fetch}
use Rattle.spc_modes.specs.declared.place.Place.{Place}
use Rattle.audio_side.proofs.Follows.{access_at, follows_got}
use Rattle.audio_side.proofs.instructions.distance.Goals as goal

pub returns : goal.returns
returns c =
    let read = c.in_ok-byte.ensures in
    follows_got c.args.spc.now c.took_distance.new.self c.args.hardware.now c.args.left.now c.program_byte.new.left c.in_ok-byte.byte (Fetch (c.args.spc.now.micro.here.pc))
    (access_at c.args.spc.now (Place.BranchDistance c.args.is_taken) c.requires.known) read.gets read.made c.took_distance.ensures
