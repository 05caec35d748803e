use Rattle.sound_file.proofs.Joined.{sound_is}
use Rattle.sound_file.proofs.file.put_sound_file.Goals as goal

pub returns : goal.returns
returns c =
    sound_is c.args.regs c.args.sound.now.hardware c.args.ports _ _ _ _ _ c.requires.none c.put_head.ensures.bytes c.keep_ram.ensures c.add.ensures.bytes c.put_tail.ensures.bytes
