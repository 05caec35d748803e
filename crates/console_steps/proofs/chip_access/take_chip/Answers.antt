use Rattle.std.proofs.Common.{◌<◌, ◌-◌, ap, subst, sym, ◌∙◌}
use Rattle.beam.specs.Places.{clocks_left}
use Rattle.console_steps.proofs.ChipRegisters.{read_beam, calm_read}
use Rattle.console_steps.proofs.chip_access.take_chip.Goals as goal

pub take_byte-requires-clause-few : goal.take_byte-requires-clause-few
take_byte-requires-clause-few c =
    subst (λ b. 6 < clocks_left b) (sym (ap (λ r. r.beam) c.read_chip-byte.ensures.after ∙ read_beam c.args.bus.now c.args.register)) c.requires.few

pub returns-clause-left : goal.returns-clause-left
returns-clause-left c =
    c.take_byte.ensures.left ∙ ap (λ b. clocks_left b - 6) (ap (λ r. r.beam) c.read_chip-byte.ensures.after ∙ read_beam c.args.bus.now c.args.register)

pub returns-clause-calm : goal.returns-clause-calm
returns-clause-calm c = λ calm.
    c.take_byte.ensures.calm (calm_read c.args.bus.now c.read_chip-byte.new.self c.args.register c.read_chip-byte.ensures.after calm)
