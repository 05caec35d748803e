use Rattle.std.proofs.Common.{◌≡◌, max, ap, subst, arith}
use Rattle.snes_defs.specs.Script.{Script}
use Rattle.plan_drive.specs.Paths.{no_paths}
use Rattle.snapshot.specs.Positions.{IsRested}
use Rattle.frame_player.proofs.begin.made.Goals as goal

pub returns-clause-rested : goal.returns-clause-rested
returns-clause-rested c =
    let job = c.args.job.now in
    let none : job.script.room ≡ 0 = ap (λ (s : Script). s.room) c.requires.script in
    let room : max job.script.room c.args.most ≡ c.args.most = omega (arith, none) in
    subst (λ n. IsRested job n no_paths c.in_ok-rewind.rewind) room c.in_ok-rewind.ensures.rested
