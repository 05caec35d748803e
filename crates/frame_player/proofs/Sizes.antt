-- How many bytes the next frame of a console has, before it is played: which rooms are too short for it.
use Rattle.std.proofs.Common.{◌≡◌, ℕ, ◌+◌, ◌<◌, ◌≤◌, min, List, [], ◌∷◌, ◌++◌, length, length-append, refl, ap, sym, ◌∙◌, subst, arith}
use Rattle.snes_defs.specs.declared.cart.Job.{Job}
use Rattle.snes_defs.specs.declared.ports.Side.TheVariants.{Console, Sound}
use Rattle.snes_defs.specs.declared.region.Region.{Region}
use Rattle.snes_defs.specs.declared.script.Span.{Span}
use Rattle.snes_defs.specs.Script.{frames_of}
use Rattle.plan_drive.specs.Paths.{longer}
use Rattle.snapshot.specs.declared.rewind.Rewind.{Rewind}
use Rattle.snapshot.specs.Positions.{IsBeyond}
use Rattle.snapshot.proofs.Steps.{goes_further}
use Rattle.recording_sizes.specs.Sizes.{HaveSizesOf}
use Rattle.recording_sizes.proofs.Runs.{path_size}
use Rattle.recording_sizes.proofs.Samples.{few_samples}
use Rattle.frame_player.specs.declared.console.Frames.{Frames}
use Rattle.frame_player.specs.declared.frame_bytes.FrameBytes.{FrameBytes}
use Rattle.frame_player.specs.FrameBytes.{TakesOf}
use Rattle.frame_player.specs.Told.{Told, IsJobOf, gone_on, path_told, region_of}
use Rattle.frame_player.specs.Frames.{WentOn, IsFramesOf, IsFrameOf, EndsFrame, samples_size}
use Rattle.frame_player.specs.declared.ends.FrameEnd.TheVariants as frame
use Rattle.frame_player.specs.Joined.{spans_frames}
use Rattle.frame_player.proofs.Jobs.{same_beyond}
use Rattle.frame_player.proofs.Paths.{spans_more}

-- the bytes of a frame
pub record Sized (region : Region) (n : ℕ) (picture samples : List ℕ) : Type 0 where
  pub picture_size : length picture ≡ 244736
  pub samples_are : length samples ≡ samples_size region n

-- what a frame hands out has these sizes
pub frame_size : (told : Told) (job : Job) (pad1 pad2 : ℕ) (picture samples : List ℕ) → IsJobOf told job
    → length told.pads < 36000 → IsFrameOf told pad1 pad2 picture samples
    → Sized (region_of told.region) (length told.pads) picture samples
frame_size told job pad1 pad2 picture samples is few frame =
    let beyond = frame job is in
    let n = length told.pads in
    let more = length-append told.pads ((pad1, pad2) ∷ []) in
    let frames : frames_of (path_told told).spans ≡ n = spans_frames told.pads in
    let frames_after : frames_of (path_told (gone_on told pad1 pad2)).spans ≡ n + 1 = spans_frames (told.pads ++ (pad1, pad2) ∷ []) ∙ more in
    let before = subst (λ k. HaveSizesOf job.region k beyond.first_video beyond.first_audio) frames
    (path_size job told.most (path_told told) beyond.first_video beyond.first_audio (omega (arith, frames, few)) beyond.first) in
    let after = subst (λ k. HaveSizesOf job.region k (beyond.first_video ++ picture) (beyond.first_audio ++ samples)) frames_after
    (path_size job told.most (path_told (gone_on told pad1 pad2)) (beyond.first_video ++ picture) (beyond.first_audio ++ samples) (omega (arith, frames_after, few)) beyond.whole) in
    let video = before.video_size in
    let more_video = after.video_size in
    let video_size = length-append beyond.first_video picture in
    let audio = before.audio_size in
    let more_audio = after.audio_size in
    let audio_size = length-append beyond.first_audio samples in
    record {
      picture_size = omega (arith, video, more_video, video_size);
      samples_are = subst (λ r. length samples ≡ samples_size r n) is.region (omega (arith, audio, more_audio, audio_size));
    }

-- a frame can be played from any path that may go on
pub record Next (told : Told) (pad1 pad2 : ℕ) : Type 0 where
  pub picture : List ℕ
  pub samples : List ℕ
  pub is : IsFrameOf told pad1 pad2 picture samples

next_frame : (told : Told) (job : Job) (pad1 pad2 : ℕ) → IsJobOf told job → length told.pads < 36000 → Next told pad1 pad2
next_frame told job pad1 pad2 is few =
    let span : Span = record { count = 1; pad1 = pad1; pad2 = pad2 } in
    let path = path_told told in
    let frames = spans_frames told.pads in
    let one = goes_further job told.most path span (omega (arith, frames, few)) in
    let next = path_told (gone_on told pad1 pad2) in
    let goes : longer path span ≡ next = ap (λ v. record { spans = v; resets = told.resets }) (sym (spans_more told.pads (pad1, pad2))) in
    record {
      picture = one.video;
      samples = one.audio;
      is = λ other other_is. same_beyond told job other told.most path next one.video one.audio is other_is
          (subst (λ p. IsBeyond job told.most path p one.video one.audio) goes one.beyond);
    }

-- ---- rooms

-- samples of a frame have at most 2,560 bytes
pub few_bytes : (region : Region) (n : ℕ) → samples_size region n ≤ 2560
few_bytes region n = let few = few_samples region n in omega (arith, few)

module _ (told : Told) (pad1 pad2 : ℕ) (f : Frames) (h : IsFramesOf told f) (lt : length told.pads < told.most) where
  few : length told.pads < 36000
  few = let most = h.stands.few in omega (arith, lt, most)

  next : Next told pad1 pad2
  next = next_frame told h.stands.job pad1 pad2 h.stands.is few

  size : Sized (region_of told.region) (length told.pads) next.picture next.samples
  size = frame_size told h.stands.job pad1 pad2 next.picture next.samples h.stands.is few next.is

  -- a room that is too short for the picture, or for the samples
  pub short_picture : (video sound : List ℕ) → length video < 244736
      → EndsFrame told pad1 pad2 video sound video sound (frame.TooShort Console)
  short_picture video sound short =
      let picture = size.picture_size in
      (next.picture, next.samples, next.is, omega (arith, picture, short), record { video = refl; sound = refl })

  pub short_sound : (video sound : List ℕ) → length sound < samples_size f.region (length told.pads)
      → EndsFrame told pad1 pad2 video sound video sound (frame.TooShort Sound)
  short_sound video sound short =
      let samples : length next.samples ≡ samples_size f.region (length told.pads) =
      size.samples_are ∙ ap (λ r. samples_size r (length told.pads)) (sym h.region_is) in
      (next.picture, next.samples, next.is, omega (arith, samples, short), record { video = refl; sound = refl })

  -- rooms that are not too short take all of a frame that was played
  pub both_fit : (video_room sound_room : ℕ) (bytes : FrameBytes) (r : Rewind) → 244736 ≤ video_room
      → samples_size f.region (length told.pads) ≤ sound_room → length bytes.video.bytes.items ≡ 244736
      → length bytes.sound.bytes.items ≡ 2560 → WentOn told pad1 pad2 (TakesOf bytes) r
      → (bytes.video.count ≤ min video_room 244736) × (bytes.sound.count ≤ min sound_room 2560)
  both_fit video_room sound_room bytes r video sound video_bytes sound_bytes went =
      let sized = frame_size told h.stands.job pad1 pad2 went.picture went.samples h.stands.is few went.is in
      let picture = sized.picture_size in
      let samples : length went.samples ≡ samples_size f.region (length told.pads) =
      sized.samples_are ∙ ap (λ r. samples_size r (length told.pads)) (sym h.region_is) in
      let most = few_bytes f.region (length told.pads) in
      let video_count = went.picture_taken.count_is in
      let sound_count = went.samples_taken.count_is in
      (omega (arith, picture, video, video_count, video_bytes), omega (arith, samples, sound, most, sound_count, sound_bytes))
