use Rattle.snes_defs.specs.declared.ports.Side.TheVariants.{Console}
use Rattle.turn_drive.proofs.Taken.{all_is_some}
use Rattle.turn_drive.proofs.both.pour_both.Goals as goal

pub returns-in_default-pour-clause-some_video : goal.returns-in_default-pour-clause-some_video
returns-in_default-pour-clause-some_video g c =
    let K = g.K.Sink in
    all_is_some (K.holds c.args.sink.now Console) (K.holds c.pour.new.sink Console) (K.holds c.pour-2.new.sink Console) _
    c.in-Ok.ensures.whole (λ had. c.pour-2.ensures.other Console had (λ e. cc))
