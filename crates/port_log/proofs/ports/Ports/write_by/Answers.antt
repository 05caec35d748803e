use Rattle.std.proofs.Common.{◌∙◌, ap}
use Rattle.port_log.specs.Kept.{clock_of}
use Rattle.port_log.proofs.Calling.{clock-by, stands-still}
use Rattle.port_log.proofs.ports.Ports.write_by.Goals as goal

pub leave-requires-in-Err-clause-stands : goal.leave-requires-in-Err-clause-stands
leave-requires-in-Err-clause-stands c =
    let en = c.in-Some.ensures.entered in
    stands-still c.args.side c.in-Some.log.value _ _ _ en.stands
    (c.in-Err.ensures.refused ∙ c.deref_mut.ensures.value)
    (c.clock-clock.ensures ∙ ap (clock_of c.args.side) c.deref.ensures ∙ clock-by c.args.side _ _ en.stands)
