use Rattle.std.proofs.Common.{◌∙◌, sym}
use Rattle.audio_side.specs.Parts.{value_of}
use Rattle.audio_side.proofs.Moves.{act_stands}
use Rattle.audio_side.proofs.parts.Parts.act.Goals as goal

pub returns-clause-value : goal.returns-clause-value
returns-clause-value c = λ m h. sym (c.next_act.ensures.value m.processor h.processor ∙ act_stands (value_of c.args.self.now) m h)
