use Rattle.std.proofs.Common.{◌∙◌}
use Rattle.frame_sums.proofs.playing.play_summed.Goals as goal

pub returns : goal.returns
returns g c = λ job plays begins.
    let played = c.in-Ok.ensures.whole job plays in
    record {
      video = played.video;
      audio = played.audio;
      emitted = played.emitted;
      video_of = c.finish.ensures.video_of ∙ c.play_serial.ensures.only.0 ∙ begins.video_of;
      audio_of = c.finish.ensures.audio_of ∙ c.play_serial.ensures.only.1 ∙ begins.audio_of;
      pictures = c.finish.ensures.video played.video played.video_taken;
      sounds = c.finish.ensures.audio played.audio played.audio_taken;
    }
