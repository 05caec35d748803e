use Rattle.std.proofs.Common.{sym}
use Rattle.spc_modes.specs.declared.place.Place.{Place}
use Rattle.audio_side.proofs.Follows.{access_at, follows_idle}
use Rattle.audio_side.proofs.instructions.pull_cycle.Goals as goal

pub returns-in_ok-one_fewer : goal.returns-in_ok-one_fewer
returns-in_ok-one_fewer c =
    follows_idle c.args.spc.now c.passed_pull_cycle.new.self c.args.hardware.now c.args.left.now c.one_fewer.new.left (access_at c.args.spc.now Place.PullCycle (sym c.in-PullCycle.ensures))
    c.in_ok-one_fewer.ensures.made c.passed_pull_cycle.ensures
