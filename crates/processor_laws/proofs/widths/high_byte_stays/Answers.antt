use Rattle.processor_laws.proofs.HighByte.{high_byte}
use Rattle.processor_laws.proofs.widths.high_byte_stays.Goals as goal

pub returns : goal.returns
returns c = high_byte c.args.op c.args.mode c.args.regs c.args.word c.requires.narrow c.requires.not_wide
