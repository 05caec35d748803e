use Rattle.std.proofs.Common.{◌∙◌, sym, ap}
use Rattle.snes_defs.specs.Script.{frames_of}
use Rattle.clock_ratio.specs.Stamp.{end_stamp_of}
use Rattle.snapshot.proofs.Copying.{done_region}
use Rattle.snapshot.proofs.rewind.Rewind.frames.Goals as goal

pub returns : goal.returns
returns c = λ job n paths rested.
    let r = c.args.self.now in
    let (video, audio, d) = rested.now in
    c.frames.ensures (frames_of paths.path.spans) d.few
    (d.end_is ∙ ap (λ region. end_stamp_of region (frames_of paths.path.spans)) (sym (done_region job n paths.path r.run video audio d)))
