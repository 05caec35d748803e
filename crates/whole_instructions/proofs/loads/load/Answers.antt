use Rattle.std.proofs.Common.{Bool, subst}
use Rattle.cpu_modes.specs.declared.place.Direction.{Direction}
use Rattle.whole_instructions.specs.Fetching.{Reaches}
use Rattle.whole_instructions.proofs.loads.load.Goals as goal

pub read_byte-requires-clause-reads : goal.read_byte-requires-clause-reads
read_byte-requires-clause-reads g c = rw (c.OP.ensures, c.WIDTH-then-not-wide.ensures) g.L.Load.reads

pub read_byte-requires-clause-reaches : goal.read_byte-requires-clause-reaches
read_byte-requires-clause-reaches g c =
    let Of : Bool → Type 0 = λ b. Reaches g.W.Way.MODE g.W.Way.SECOND c.args.bus.now c.args.regs.now (record { direction = Direction.Load; wide = b })
    c.in-Some.reached.operands c.in-Some.reached.clocks c.in-Some.reached.at c.in-Some.reached.last in
    rw c.MODE.ensures (subst Of c.if-not-wide.true c.in-Some.ensures.reaches)

pub read_word-requires-clause-reads : goal.read_word-requires-clause-reads
read_word-requires-clause-reads g c = rw (c.OP.ensures, c.WIDTH-2.ensures) g.L.Load.reads

pub read_word-requires-clause-reaches : goal.read_word-requires-clause-reaches
read_word-requires-clause-reaches g c =
    let Of : Bool → Type 0 = λ b. Reaches g.W.Way.MODE g.W.Way.SECOND c.args.bus.now c.args.regs.now (record { direction = Direction.Load; wide = b })
    c.in-Some.reached.operands c.in-Some.reached.clocks c.in-Some.reached.at c.in-Some.reached.last in
    rw (c.MODE.ensures, c.SECOND-3.ensures) (subst Of c.if-not-wide.false c.in-Some.ensures.reaches)
