use Rattle.std.proofs.Common.{◌<◌, ◌≤◌, length, refl, sym, ◌∙◌, subst, arith}
use Rattle.frame_player.specs.Told.{word_of}
use Rattle.frame_player.specs.Frames.{samples_size}
use Rattle.frame_player.proofs.Standing.{played_are}
use Rattle.frame_player.proofs.Sizes.{short_picture, short_sound, both_fit}
use Rattle.frame_player.proofs.console.Frames.frame.Goals as goal

pub returns-then-frames-self-clause-ends : goal.returns-then-frames-self-clause-ends
returns-then-frames-self-clause-ends c = λ told h.
    let played = played_are told c.args.self.now.rewind c.frames-frames.result h.stands c.frames-frames.ensures in
    let most = h.most_is in
    let all = c.if-frames-self.true in
    (omega (arith, played, most, all), record { video = refl; sound = refl })

pub returns-then-video-lt-FRAME_BYTES-clause-ends : goal.returns-then-video-lt-FRAME_BYTES-clause-ends
returns-then-video-lt-FRAME_BYTES-clause-ends c = λ told h.
    let played = played_are told c.args.self.now.rewind c.frames-frames.result h.stands c.frames-frames.ensures in
    let most = h.most_is in
    let some = c.if-frames-self.false in
    let short = c.if-video-lt-FRAME_BYTES.true in
    short_picture told (word_of c.args.pad1) (word_of c.args.pad2) c.args.self.now h (omega (arith, played, most, some))
    c.args.video.now c.args.sound.now (omega (arith, short))

pub returns-then-sound-sound_bytes-clause-ends : goal.returns-then-sound-sound_bytes-clause-ends
returns-then-sound-sound_bytes-clause-ends c = λ told h.
    let played = played_are told c.args.self.now.rewind c.frames-frames.result h.stands c.frames-frames.ensures in
    let most = h.most_is in
    let some = c.if-frames-self.false in
    let exact = c.sound_bytes.ensures.exact in
    let short = c.if-sound-sound_bytes.true in
    short_sound told (word_of c.args.pad1) (word_of c.args.pad2) c.args.self.now h (omega (arith, played, most, some))
    c.args.video.now c.args.sound.now
    (subst (λ n. length c.args.sound.now < samples_size c.args.self.now.region n) played (omega (arith, exact, short)))

pub go-requires-clause-stands : goal.go-requires-clause-stands
go-requires-clause-stands c =
    let (told, h) = c.requires.told in
    let played = played_are told c.args.self.now.rewind c.frames-frames.result h.stands c.frames-frames.ensures in
    let most = h.most_is in
    let some = c.if-frames-self.false in
    (told, h.stands, omega (arith, played, most, some))

pub hand_out-requires-clause-picture : goal.hand_out-requires-clause-picture
hand_out-requires-clause-picture c =
    let (told, h) = c.requires.told in
    let f = c.args.self.now in
    let played = played_are told f.rewind c.frames-frames.result h.stands c.frames-frames.ensures in
    let most = h.most_is in
    let some = c.if-frames-self.false in
    let lt : length told.pads < told.most = omega (arith, played, most, some) in
    let wide = c.if-video-lt-FRAME_BYTES.false in
    let exact = c.sound_bytes.ensures.exact in
    let loud = c.if-sound-sound_bytes.false in
    let rooms = c.go.ensures.rooms in
    (both_fit told (word_of c.args.pad1) (word_of c.args.pad2) f h lt (length c.args.video.now) (length c.args.sound.now) c.go.new.bytes c.go.new.rewind
    (omega (arith, wide)) (subst (λ n. samples_size f.region n ≤ length c.args.sound.now) played (omega (arith, exact, loud)))
    (rooms.video ∙ (sym f.bytes.video.bytes.ok.0 ∙ f.picture_fits)) (rooms.sound ∙ (sym f.bytes.sound.bytes.ok.0 ∙ f.samples_fit)) (c.go.ensures.went told h.stands lt)).0

pub hand_out-requires-clause-samples : goal.hand_out-requires-clause-samples
hand_out-requires-clause-samples c =
    let (told, h) = c.requires.told in
    let f = c.args.self.now in
    let played = played_are told f.rewind c.frames-frames.result h.stands c.frames-frames.ensures in
    let most = h.most_is in
    let some = c.if-frames-self.false in
    let lt : length told.pads < told.most = omega (arith, played, most, some) in
    let wide = c.if-video-lt-FRAME_BYTES.false in
    let exact = c.sound_bytes.ensures.exact in
    let loud = c.if-sound-sound_bytes.false in
    let rooms = c.go.ensures.rooms in
    (both_fit told (word_of c.args.pad1) (word_of c.args.pad2) f h lt (length c.args.video.now) (length c.args.sound.now) c.go.new.bytes c.go.new.rewind
    (omega (arith, wide)) (subst (λ n. samples_size f.region n ≤ length c.args.sound.now) played (omega (arith, exact, loud)))
    (rooms.video ∙ (sym f.bytes.video.bytes.ok.0 ∙ f.picture_fits)) (rooms.sound ∙ (sym f.bytes.sound.bytes.ok.0 ∙ f.samples_fit)) (c.go.ensures.went told h.stands lt)).1

pub returns-clause-played : goal.returns-clause-played
returns-clause-played c = λ told h.
    let played = played_are told c.args.self.now.rewind c.frames-frames.result h.stands c.frames-frames.ensures in
    let most = h.most_is in
    let some = c.if-frames-self.false in
    let w = c.go.ensures.went told h.stands (omega (arith, played, most, some)) in
    record {
      picture = w.picture;
      samples = w.samples;
      is = w.is;
      video_is = (c.hand_out.ensures.picture w.picture w.picture_taken).0;
      sound_is = (c.hand_out.ensures.samples w.samples w.samples_taken).0;
      video_count_is = (c.hand_out.ensures.picture w.picture w.picture_taken).1;
      sound_count_is = (c.hand_out.ensures.samples w.samples w.samples_taken).1;
    }

pub returns-clause-on : goal.returns-clause-on
returns-clause-on c = λ told h.
    let played = played_are told c.args.self.now.rewind c.frames-frames.result h.stands c.frames-frames.ensures in
    let most = h.most_is in
    let some = c.if-frames-self.false in
    let w = c.go.ensures.went told h.stands (omega (arith, played, most, some)) in
    record { stands = w.stands; most_is = most; slots_is = h.slots_is; region_is = h.region_is }
