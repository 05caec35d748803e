use Rattle.std.proofs.Common.{◌≡◌, ℕ, ◌+◌, ◌%◌, ap, subst, ◌∙◌}
use Rattle.cpu_modes.specs.Addresses.{direct}
use Rattle.cpu_modes.specs.declared.place.PointerKind.{PointerKind}
use Rattle.whole_instructions.specs.Fetching.{IsPointer}
use Rattle.whole_instructions.proofs.Pointers.{reaches_x_pointer}
use Rattle.whole_instructions.proofs.ways.DirectXPointerWay.reach.Goals as goal

pub returns-clause-reaches : goal.returns-clause-reaches
returns-clause-reaches c =
    let bus = c.args.bus.now in
    let r = c.args.regs.now in
    let p = c.in_ok-p.p in
    let At : ℕ → Type 0 = λ x. IsPointer PointerKind.Plain bus r x p.word p.last p.clocks in
    let place = c.direct_address-place.ensures.exact ∙ ap (λ (o : ℕ). direct r o r.x) c.first.ensures in
    rw (c.low_clocks.ensures.clocks) (reaches_x_pointer bus r c.args.code.at c.args.code.clocks p.word p.last p.clocks c.args.traffic c.requires (subst At place c.in_ok-p.ensures.there))
