use Rattle.std.proofs.Common.{◌≡◌, None, refl, sym, ap, ◌∙◌}
use Rattle.cpu_modes.specs.Plan.{finished}
use Rattle.cpu_modes.specs.Remaining.{remaining}
use Rattle.cpu65816.specs.Instruction.{end_of}
use Rattle.cpu65816.proofs.Moves.{Stands-after_cycle, goes_on-taken_up}
use Rattle.cpu65816.proofs.processor.Cpu.idle_at.Goals as goal

pub returns : goal.returns
returns c = λ s h.
    let cpu = c.args.self.now in
    let on : end_of cpu.kept cpu.irq_level (remaining cpu.micro) ≡ None = ap (λ awake. finished awake (remaining cpu.micro)) (sym c.is_awake.ensures) ∙ c.if-has_ended_at.ensures in
    Stands-after_cycle cpu cpu _ s (goes_on-taken_up cpu on) (c.settle.ensures.left ∙ c.idle_at-has_ended.ensures.left) (c.settle.ensures.start ∙ c.idle_at-has_ended.ensures.start) refl refl refl h
