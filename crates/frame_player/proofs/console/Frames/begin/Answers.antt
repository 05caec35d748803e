use Rattle.std.proofs.Common.{arith}
use Rattle.frame_player.specs.Told.{region_number}
use Rattle.frame_player.proofs.Begins.{begun}
use Rattle.frame_player.proofs.console.Frames.begin.Goals as goal

pub returns-in-Ok-clause-begun : goal.returns-in-Ok-clause-begun
returns-in-Ok-clause-begun c =
    let inputs = c.args.inputs in
    let made = c.in-Ok.ensures in
    let few = c.if-inputs-gt-MOST_FRAMES.false in
    let slots_few = c.if-inputs-gt-MOST_SLOTS.false in
    begun inputs.cart.now inputs.boot.now inputs.table.now (region_number inputs.region) inputs.most inputs.slots
    c.in_ok-job.job c.in-Ok.frames c.in_ok-job.ensures.job made.rested made.slots made.most_is made.slots_is made.region_is
    (omega (arith, few)) (omega (arith, slots_few))
