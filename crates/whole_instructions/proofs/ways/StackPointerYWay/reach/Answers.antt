use Rattle.std.proofs.Common.{◌≡◌, ℕ, ◌+◌, ◌%◌, ap, subst, ◌∙◌}
use Rattle.cpu_modes.specs.declared.place.PointerKind.{PointerKind}
use Rattle.whole_instructions.specs.Fetching.{IsPointer}
use Rattle.whole_instructions.proofs.Pointers.{reaches_stack_pointer}
use Rattle.whole_instructions.proofs.ways.StackPointerYWay.reach.Goals as goal

pub returns-clause-reaches : goal.returns-clause-reaches
returns-clause-reaches c =
    let bus = c.args.bus.now in
    let r = c.args.regs.now in
    let p = c.in_ok-p.p in
    let At : ℕ → Type 0 = λ x. IsPointer PointerKind.StackY bus r x p.word p.last p.clocks in
    let place = ap (λ (o : ℕ). (r.s + o) % 65536) c.first.ensures in
    (reaches_stack_pointer bus r c.args.code.at c.args.code.clocks p.word p.last p.clocks c.args.traffic c.requires (subst At place c.in_ok-p.ensures.there))
