use Rattle.audio_side.proofs.Follows.{follows_then}
use Rattle.audio_side.proofs.instructions.with_operand.Goals as goal

pub returns-in_err-operand_high : goal.returns-in_err-operand_high
returns-in_err-operand_high c = follows_then c.first_byte.ensures c.operand_high.ensures

pub returns-in_err-data_cycle : goal.returns-in_err-data_cycle
returns-in_err-data_cycle c = follows_then (follows_then c.first_byte.ensures c.operand_high.ensures) c.data_cycle.ensures

pub returns : goal.returns
returns c = follows_then (follows_then (follows_then c.first_byte.ensures c.operand_high.ensures) c.data_cycle.ensures) c.data.ensures
