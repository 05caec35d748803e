use Rattle.std.proofs.Common.{◌<◌, length, arith}
use Rattle.frame_player.proofs.console.Frames.back.Goals as goal

pub returns-clause-back : goal.returns-clause-back
returns-clause-back c = λ told h is.
    let slots = h.slots_is in
    let short = c.if-slot-from.false in
    let lt : c.args.slot < length told.held = omega (arith, slots, short) in
    (lt, record { stands = c.go_back.ensures.back told h.stands lt; most_is = h.most_is; slots_is = slots; region_is = h.region_is })
