use Rattle.std.proofs.Common.{refl, arith}
use Rattle.snes_defs.specs.Script.{frames_of}
use Rattle.snapshot.specs.Path.{console_of_path, sound_of_path}
use Rattle.snapshot.specs.PathLaws.{path_ends}
use Rattle.snapshot.proofs.Numbers.{ends_early}
use Rattle.snapshot.proofs.Over.{drove, drove_some, emitted_of, stands_led}
use Rattle.snapshot.proofs.rewind.Rewind.go_on.Goals as goal

pub returns-in-Ok-clause-whole : goal.returns-in-Ok-clause-whole
returns-in-Ok-clause-whole g c = λ job n paths before base h video audio.
    let r = c.args.self.now in
    drove job n paths before r c.go_on.new.self base (g.K.Sink.holds c.go_on.new.sink) c.requires.no_video c.requires.no_audio
    c.in-Ok.ensures.console_past c.in-Ok.ensures.sound_past c.in-Ok.ensures.no_video c.in-Ok.ensures.no_audio c.go_on.ensures.end h
    (c.in-Ok.ensures.whole (console_of_path job.region job.cart n paths.path) (sound_of_path job.region n paths.path.resets job.boot job.table) base (emitted_of job n paths before r h) (stands_led job n paths before r h) video audio)

pub returns-in-Err-clause-some : goal.returns-in-Err-clause-some
returns-in-Err-clause-some g c = λ job n paths before base h video audio.
    let r = c.args.self.now in
    drove_some job n paths before r base (g.K.Sink.holds c.go_on.new.sink) c.requires.no_video c.requires.no_audio h
    (c.in-Err.ensures.part (console_of_path job.region job.cart n paths.path) (sound_of_path job.region n paths.path.resets job.boot job.table) base (emitted_of job n paths before r h) (stands_led job n paths before r h) video audio (path_ends job n paths.path r.run.end))

pub go_on-requires-clause-early : goal.go_on-requires-clause-early
go_on-requires-clause-early g c =
    let (job, n, paths, before, h) = c.requires.going in
    let end = h.end_is in
    let early = ends_early job.region (frames_of paths.path.spans) h.few in
    omega (arith, end, early)

pub returns-in-Ok-clause-steps : goal.returns-in-Ok-clause-steps
returns-in-Ok-clause-steps g c = record { run = c.go_on.ensures.stepped; slots = λ k other. refl }

pub returns-in-Err-clause-steps : goal.returns-in-Err-clause-steps
returns-in-Err-clause-steps g c = record { run = c.go_on.ensures.stepped; slots = λ k other. refl }
