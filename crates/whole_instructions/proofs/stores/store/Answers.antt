use Rattle.std.proofs.Common.{Bool, subst}
use Rattle.cpu_modes.specs.declared.place.Direction.{Direction}
use Rattle.whole_instructions.specs.Fetching.{Reaches}
use Rattle.whole_instructions.proofs.stores.store.Goals as goal

pub write_byte-requires-clause-writes : goal.write_byte-requires-clause-writes
write_byte-requires-clause-writes g c = rw (c.OP.ensures, c.WIDTH-then-not-wide-2.ensures) g.L.Store.writes

pub write_byte-requires-clause-reaches : goal.write_byte-requires-clause-reaches
write_byte-requires-clause-reaches g c =
    let Of : Bool → Type 0 = λ b. Reaches g.W.Way.MODE g.W.Way.SECOND c.args.bus.now c.args.regs.now (record { direction = Direction.Store; wide = b })
    c.in-Some.reached.operands c.in-Some.reached.clocks c.in-Some.reached.at c.in-Some.reached.last in
    rw c.MODE.ensures (subst Of c.if-not-wide-2.true c.in-Some.ensures.reaches)

pub write_word-requires-clause-writes : goal.write_word-requires-clause-writes
write_word-requires-clause-writes g c = rw (c.OP.ensures, c.WIDTH-2.ensures) g.L.Store.writes

pub write_word-requires-clause-reaches : goal.write_word-requires-clause-reaches
write_word-requires-clause-reaches g c =
    let Of : Bool → Type 0 = λ b. Reaches g.W.Way.MODE g.W.Way.SECOND c.args.bus.now c.args.regs.now (record { direction = Direction.Store; wide = b })
    c.in-Some.reached.operands c.in-Some.reached.clocks c.in-Some.reached.at c.in-Some.reached.last in
    rw (c.MODE.ensures, c.SECOND-3.ensures) (subst Of c.if-not-wide-2.false c.in-Some.ensures.reaches)

pub write_register-requires-clause-writes : goal.write_register-requires-clause-writes
write_register-requires-clause-writes g c = rw (c.OP.ensures, c.WIDTH-then-not-wide.ensures) g.L.Store.writes

pub write_register-requires-clause-reaches : goal.write_register-requires-clause-reaches
write_register-requires-clause-reaches g c =
    let Of : Bool → Type 0 = λ b. Reaches g.W.Way.MODE g.W.Way.SECOND c.args.bus.now c.args.regs.now (record { direction = Direction.Store; wide = b })
    c.in-Some.reached.operands c.in-Some.reached.clocks c.in-Some.reached.at c.in-Some.reached.last in
    rw c.MODE.ensures (subst Of c.if-not-wide.true c.in-Some.ensures.reaches)
