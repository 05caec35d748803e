use Rattle.std.proofs.Common.{arith}
use Rattle.audio_side.proofs.Follows.{follows_then, if_some}
use Rattle.audio_side.proofs.instructions.instruction.Goals as goal

pub returns-clause-follows : goal.returns-clause-follows
returns-clause-follows c = follows_then c.opcode.ensures.follows c.after_opcode.ensures

pub returns-clause-made : goal.returns-clause-made
returns-clause-made c =
    let first = c.in_ok-opcode.ensures.made in
    let then = c.after_opcode.ensures.fewer in
    if_some c.after_opcode.result (omega (arith, first, then))
