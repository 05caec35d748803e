use Rattle.audio_side.proofs.Follows.{follows_none, follows_then}
use Rattle.audio_side.proofs.instructions.make_all.Goals as goal

pub accesses-init : goal.accesses-init
accesses-init c = record { follows = follows_none c.args.spc.now c.args.hardware.now c.args.left.now }

pub accesses-preserved : goal.accesses-preserved
accesses-preserved c = record { follows = follows_then c.accesses.invariant.follows c.make_some.ensures.follows }

pub returns-in_default : goal.returns-in_default
returns-in_default c = follows_then c.accesses.invariant.follows c.make_some.ensures.follows
