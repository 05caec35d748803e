use Rattle.spc_tables.specs.declared.access.SpcAccess.TheVariants.{Fetch}
use Rattle.spc_modes.specs.declared.place.Place.{Place}
use Rattle.audio_side.proofs.Follows.{access_at, follows_got}
use Rattle.audio_side.proofs.instructions.opcode.Goals as goal

pub returns-clause-follows : goal.returns-clause-follows
returns-clause-follows c =
    let read = c.in_ok-byte.ensures in
    follows_got c.args.spc.now c.took_opcode.new.self c.args.hardware.now c.args.left.now c.program_byte.new.left c.in_ok-byte.byte (Fetch (c.args.spc.now.micro.here.pc))
    (access_at c.args.spc.now Place.Between c.requires.known) read.gets read.made c.took_opcode.ensures
