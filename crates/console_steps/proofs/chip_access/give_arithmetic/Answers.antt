use Rattle.std.proofs.Common.{ap, ◌∙◌}
use Rattle.dma_hdma.specs.Channels.{due_of as transfer_of}
use Rattle.console_steps.proofs.chip_access.give_arithmetic.Goals as goal

pub returns-clause-calm : goal.returns-clause-calm
returns-clause-calm c = λ calm.
    let kept = c.write_arithmetic.ensures in
    c.give_byte.ensures.calm (record {
      reset = kept.reset ∙ calm.reset;
      refresh = kept.refresh ∙ calm.refresh;
      transfer = ap transfer_of kept.channels ∙ calm.transfer;
    })
