use Rattle.std.proofs.Common.{refl}
use Rattle.side_law.specs.Serial.{serial_of}
use Rattle.job_player.specs.Start.{console_of, sound_of}
use Rattle.recording_sizes.proofs.Runs.{output_size, nothing_emitted}
use Rattle.frame_player_laws.proofs.sizes.a_recording_has_its_size.Goals as goal

pub returns : goal.returns
returns c = λ job video audio few out.
    let w = serial_of (console_of job) (sound_of job) in
    output_size job.region job.frames few w video audio
    (nothing_emitted job.region job.frames few w refl refl refl refl refl refl refl) out
