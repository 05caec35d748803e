use Rattle.std.proofs.Common.{◌≡◌, ℕ, ◌+◌, ◌%◌, ap, subst, ◌∙◌}
use Rattle.cpu_modes.specs.Addresses.{direct_always}
use Rattle.cpu_modes.specs.declared.place.PointerKind.{PointerKind}
use Rattle.whole_instructions.specs.Fetching.{IsByteAt, IsPointer}
use Rattle.whole_instructions.proofs.Pointers.{reaches_long_pointer}
use Rattle.whole_instructions.proofs.ways.DirectLongPointerWay.reach.Goals as goal

pub returns-clause-reaches : goal.returns-clause-reaches
returns-clause-reaches c =
    let bus = c.args.bus.now in
    let r = c.args.regs.now in
    let p = c.in_ok-p.p in
    let At : ℕ → Type 0 = λ x. IsPointer PointerKind.Long bus r x p.word p.last p.clocks in
    let place = c.direct_always-place.ensures.exact ∙ ap (λ (o : ℕ). direct_always r o) c.first.ensures in
    let Byte : ℕ → Type 0 = λ x. IsByteAt bus ((x + 2) % 65536) c.in_ok-bank.bank.byte c.in_ok-bank.bank.clocks in
    rw (c.low_clocks.ensures.clocks) (reaches_long_pointer bus r c.args.code.at c.args.code.clocks p.word p.last p.clocks c.in_ok-bank.bank.byte c.in_ok-bank.bank.clocks c.args.traffic c.requires (subst At place c.in_ok-p.ensures.there) (subst Byte place c.in_ok-bank.ensures.seen))
