use Rattle.std.proofs.Common.{◌∙◌, ◌-◌, drop, length, arith}
use Rattle.std.proofs.lemmas.List.{length-drop, take_all}
use Rattle.audio_side.proofs.from_parts.boot_of.Goals as goal

pub returns : goal.returns
returns c =
    c.in-Ok.ensures.1.same ∙ take_all (length c.args.ram.now - 65472) (drop 65472 c.args.ram.now) (omega (arith, length-drop 65472 c.args.ram.now))
