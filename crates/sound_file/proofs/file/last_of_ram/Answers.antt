use Rattle.std.proofs.Common.{arith}
use Rattle.std.proofs.lemmas.List.{length-drop}
use Rattle.sound_file.proofs.Joined.{last_is}
use Rattle.sound_file.proofs.file.last_of_ram.Goals as goal

pub returns-clause-bytes : goal.returns-clause-bytes
returns-clause-bytes c = last_is c.ram.result.now c.args.sound.now.hardware.ram c.ram.ensures.bytes

pub returns-clause-size : goal.returns-clause-size
returns-clause-size c = omega (arith, length-drop 65472 c.ram.result.now, c.ram.ensures.size)
