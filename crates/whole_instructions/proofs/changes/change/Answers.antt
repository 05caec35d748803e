use Rattle.std.proofs.Common.{Bool, subst}
use Rattle.cpu_modes.specs.declared.place.Direction.{Direction}
use Rattle.whole_instructions.specs.Fetching.{Reaches}
use Rattle.whole_instructions.proofs.changes.change.Goals as goal

pub change_byte-requires-clause-changes : goal.change_byte-requires-clause-changes
change_byte-requires-clause-changes g c = rw (c.OP.ensures) g.L.Change.changes

pub change_byte-requires-clause-reaches : goal.change_byte-requires-clause-reaches
change_byte-requires-clause-reaches g c =
    let Of : Bool → Type 0 = λ b. Reaches g.W.Way.MODE g.W.Way.SECOND c.args.bus.now c.args.regs.now (record { direction = Direction.Change; wide = b })
    c.in-Some.reached.operands c.in-Some.reached.clocks c.in-Some.reached.at c.in-Some.reached.last in
    rw c.MODE.ensures (subst Of c.if-not-wide.true c.in-Some.ensures.reaches)

pub change_word-requires-clause-changes : goal.change_word-requires-clause-changes
change_word-requires-clause-changes g c = rw (c.OP.ensures) g.L.Change.changes

pub change_word-requires-clause-reaches : goal.change_word-requires-clause-reaches
change_word-requires-clause-reaches g c =
    let Of : Bool → Type 0 = λ b. Reaches g.W.Way.MODE g.W.Way.SECOND c.args.bus.now c.args.regs.now (record { direction = Direction.Change; wide = b })
    c.in-Some.reached.operands c.in-Some.reached.clocks c.in-Some.reached.at c.in-Some.reached.last in
    rw (c.MODE.ensures, c.SECOND-3.ensures) (subst Of c.if-not-wide.false c.in-Some.ensures.reaches)
