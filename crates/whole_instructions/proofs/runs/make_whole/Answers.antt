use Rattle.std.proofs.Common.{refl, sym, ap, subst}
use Rattle.cpu_tables.specs.declared.regs.Regs.{Regs}
use Rattle.console_bus.specs.BusState.{BusState}
use Rattle.whole_instructions.specs.Runs.{IsRun}
use Rattle.whole_instructions.proofs.Wholes.{goes_whole, goes_before}
use Rattle.whole_instructions.proofs.runs.make_whole.Goals as goal

pub returns-then-stand_before : goal.returns-then-stand_before
returns-then-stand_before c =
    let cpu = c.args.cpu.now in
    let bus = c.args.bus.now in
    let From : Regs → Type 0 = λ r. IsRun r c.run.new.regs bus c.run.new.bus in
    let run = subst From (ap (λ m. m.here) c.in-Some.ensures.micro) c.run.ensures in
    goes_before cpu c.go_on_from.new.self c.run.new.regs c.stand_before.new.micro bus c.run.new.bus c.stand_before.new.bus c.in-Some.ensures.ended c.in-Some.ensures.no_edge c.in-Some.ensures.no_irq
    run (c.stand_before.ensures.before c.if-stand_before.true) (c.go_on_from.ensures.running refl)

pub returns : goal.returns
returns c =
    let cpu = c.args.cpu.now in
    let bus = c.args.bus.now in
    let stays = c.stand_before.ensures.stays c.if-stand_before.false in
    let From : Regs → Type 0 = λ r. IsRun r c.run.new.regs bus c.run.new.bus in
    let To : Regs → Type 0 = λ r. IsRun cpu.micro.here r bus c.run.new.bus in
    let At : BusState → Type 0 = λ b. IsRun cpu.micro.here c.stand_before.new.micro.here bus b in
    let run = subst From (ap (λ m. m.here) c.in-Some.ensures.micro) c.run.ensures in
    let same = subst At (sym stays.1) (subst To (sym stays.0) run) in
    goes_whole cpu c.go_on_from-2.new.self c.stand_before.new.micro.here bus c.stand_before.new.bus c.in-Some.ensures.ended c.in-Some.ensures.no_edge c.in-Some.ensures.no_irq same (c.go_on_from-2.ensures.ended refl)
