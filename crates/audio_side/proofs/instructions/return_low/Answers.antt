use Rattle.std.proofs.Common.{sym}
use Rattle.spc_tables.specs.declared.access.SpcAccess.TheVariants.{Read}
use Rattle.spc_modes.specs.Addresses.{pulled, stack}
use Rattle.spc_modes.specs.declared.place.Place.{Place}
use Rattle.audio_side.proofs.Follows.{access_at, follows_got}
use Rattle.audio_side.proofs.instructions.return_low.Goals as goal

pub returns-in_ok-byte : goal.returns-in_ok-byte
returns-in_ok-byte c =
    let read = c.in_ok-byte.ensures in
    follows_got c.args.spc.now c.took_return_low.new.self c.args.hardware.now c.args.left.now c.stack_byte.new.left c.in_ok-byte.byte (Read (stack (pulled c.args.spc.now.micro.here)))
    (access_at c.args.spc.now Place.ReturnLow (sym c.in-ReturnLow.ensures)) read.gets read.made c.took_return_low.ensures
