use Rattle.spc_modes.specs.declared.place.Place.{Place}
use Rattle.audio_side.proofs.Follows.{access_at, follows_idle}
use Rattle.audio_side.proofs.instructions.pull_first_cycle.Goals as goal

pub returns : goal.returns
returns c =
    follows_idle c.args.spc.now c.passed_pull_first_cycle.new.self c.args.hardware.now c.args.left.now c.one_fewer.new.left (access_at c.args.spc.now Place.PullFirstCycle c.requires.known)
    c.in_ok-one_fewer.ensures.made c.passed_pull_first_cycle.ensures
