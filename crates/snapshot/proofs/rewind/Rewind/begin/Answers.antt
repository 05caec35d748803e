use Rattle.std.proofs.Common.{◌≡◌, ◌+◌, ◌*◌, ◌^◌, ◌≤◌, ◌<◌, [], length, refl, ap, sym, subst, arith}
use Rattle.snes_defs.specs.Script.{Script, frames_of}
use Rattle.clock_ratio.specs.Stamp.{frame_of}
use Rattle.console_steps.specs.ConsoleState.{ConsoleState}
use Rattle.console_machine.specs.Side.{StandsAt}
use Rattle.console_machine.specs.Playing.{console_played, value_played}
use Rattle.snapshot.specs.declared.run.Run.{Run}
use Rattle.snapshot.specs.Positions.{IsGoing}
use Rattle.plan_drive.specs.Paths.{gone}
use Rattle.snapshot.proofs.Numbers.{ends_early}
use Rattle.snapshot.proofs.Copying.{done_script, done_region}
use Rattle.snapshot.proofs.Going.{begun}
use Rattle.snapshot.proofs.Stepping.{console_stands}
use Rattle.snapshot.proofs.rewind.Rewind.begin.Goals as goal

pub play-requires : goal.play-requires
play-requires c =
    let (job, n, paths, rested, short, few) = c.requires.rested in
    let (video, audio, d) = rested.now in
    let script = done_script job n paths.path c.args.self.now.run video audio d in
    let end = d.end_is in
    let early = ends_early job.region (frames_of paths.path.spans + c.args.span.count) few in
    record {
      room = subst (λ (s : Script). length s.spans < s.room) (sym script) short;
      frames = subst (λ (s : Script). frames_of s.spans + c.args.span.count ≤ 36000) (sym script) few;
      early = subst (λ g. c.args.self.now.run.end + frame_of g * c.args.span.count ≤ 2 ^ 62) (sym (done_region job n paths.path c.args.self.now.run video audio d))
          (omega (arith, end, early));
    }

pub returns-clause-going : goal.returns-clause-going
returns-clause-going c = λ job n paths rested.
    let r = c.args.self.now in
    let (first_job, first_n, first_paths, first, short, few) = c.requires.rested in
    let (video, audio, d) = first.now in
    let script = done_script first_job first_n first_paths.path r.run video audio d in
    let played = c.play.ensures.played in
    subst (λ (v : Run). IsGoing job n (gone paths c.args.span) paths.path [] [] (record { run = v; slots = r.slots })) (sym played)
    (begun job n paths r c.args.span (value_played r.run.serial.console c.args.span)
    (subst (λ (s : Script). length s.spans < s.room) (sym script) short)
    (subst (λ (s : Script). frames_of s.spans + c.args.span.count ≤ 36000) (sym script) few)
    (subst (λ (v : Run). (w : ConsoleState) → StandsAt r.run.serial.console w → StandsAt v.serial.console (console_played w c.args.span)) played c.play.ensures.stands)
    refl
    rested)

pub returns-clause-machines : goal.returns-clause-machines
returns-clause-machines c =
    let r = c.args.self.now in
    let played = ap (λ (v : Run). v.serial) c.play.ensures.played in
    console_stands (λ w. console_played w c.args.span) r.run c.play.new.self c.play.ensures.stands
    (subst (λ s. s ≡ record r.run.serial { console = s.console }) (sym played) refl)

pub returns-clause-waits : goal.returns-clause-waits
returns-clause-waits c = record { run = ap (λ (v : Run). v.stepped) c.play.ensures.played; slots = λ k other. refl }
