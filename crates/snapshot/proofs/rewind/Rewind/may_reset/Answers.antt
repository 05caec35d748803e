use Rattle.std.proofs.Common.{◌≡◌, ◌<◌, ap, sym, subst, ◌∙◌}
use Rattle.snes_defs.specs.Script.{Script, frames_of, is_reset}
use Rattle.snapshot.proofs.Copying.{done_script}
use Rattle.snapshot.proofs.Pressing.{frames_are, may_press, may_not}
use Rattle.snapshot.proofs.rewind.Rewind.may_reset.Goals as goal

pub returns : goal.returns
returns c = λ job n paths rested.
    let r = c.args.self.now in
    let path = paths.path in
    let (video, audio, d) = rested.now in
    let count = c.frames-frames.result in
    let frames = frames_are job n path r.run video audio d count c.frames-frames.ensures in
    let script = done_script job n path r.run video audio d in
    let there : c.is_reset_in.result ≡ is_reset path.resets (frames_of path.spans) =
    c.is_reset_in.ensures ∙ ap (λ (s : Script). is_reset s.resets count) script ∙ ap (λ m. is_reset path.resets m) frames in (
      λ on. let both = c.may_press.ensures.0 on in may_press path d.few d.rise (subst (λ m. 0 < m) frames both.0) (sym there ∙ both.1),
      λ may. let both = may_not path may in c.may_press.ensures.1 (subst (λ m. 0 < m) (sym frames) both.0, there ∙ both.1),
    )
