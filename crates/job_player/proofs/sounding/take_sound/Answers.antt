use Rattle.job_player.proofs.SoundLemmas.{taken_is}
use Rattle.job_player.proofs.sounding.take_sound.Goals as goal

pub returns : goal.returns
returns c = λ w at.
    taken_is w c.go_to_moment.new.serial (c.go_to_moment.ensures.gone w (c.hush_both.ensures.stays w at))
    c.machines.result.1.now c.processor.result.now c.regs.result c.ports.result.0 c.put_sound_file.new.to.bytes
    c.machines.ensures.sound c.processor.ensures c.regs.ensures c.ports.ensures.to_sound c.put_sound_file.ensures
