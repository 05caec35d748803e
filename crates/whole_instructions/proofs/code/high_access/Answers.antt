use Rattle.std.proofs.Common.{◌≡◌, ◌+◌, ◌∙◌, sym, arith}
use Rattle.cpu_modes.specs.Addresses.{second}
use Rattle.whole_instructions.proofs.Fetches.{next_byte}
use Rattle.whole_instructions.proofs.code.high_access.Goals as goal

pub returns-clause-memory : goal.returns-clause-memory
returns-clause-memory c =
    let off = c.if-to-eq-LAST_OF_PAGE.false in
    let next : second c.args.reach c.args.to ≡ c.args.to + 1 = sym c.second_address.ensures.exact ∙ c.if-second_address-to.false in
    next_byte c.args.bus.now c.args.reach c.args.to c.args.low.at c.args.low.clocks c.requires.stretch next (omega (arith, off))

pub returns-clause-inside : goal.returns-clause-inside
returns-clause-inside c =
    let off = c.if-to-eq-LAST_OF_PAGE.false in
    let next : second c.args.reach c.args.to ≡ c.args.to + 1 = sym c.second_address.ensures.exact ∙ c.if-second_address-to.false in
    (next_byte c.args.bus.now c.args.reach c.args.to c.args.low.at c.args.low.clocks c.requires.stretch next (omega (arith, off))).inside
