use Rattle.std.proofs.Common.{◌∙◌}
use Rattle.plan_drive.specs.Paths.{gone}
use Rattle.frame_player.specs.FrameBytes.{TakesOf}
use Rattle.frame_player.proofs.Puts.{takes_nothing}
use Rattle.frame_player.proofs.Standing.{can_go, no_bytes, went}
use Rattle.frame_player.proofs.moves.go.Goals as goal

pub begin-requires : goal.begin-requires
begin-requires c =
    let (told, h, lt) = c.requires.stands in
    let both = can_go told c.args.rewind.now c.args.span h c.requires.one lt in
    record { rested = (h.job, told.most, h.paths, h.rested, both.0, both.1) }

pub go_on-requires-clause-going : goal.go_on-requires-clause-going
go_on-requires-clause-going c =
    let (told, h, lt) = c.requires.stands in
    (h.job, told.most, gone h.paths c.args.span, h.paths.path, c.begin.ensures.going h.job told.most h.paths h.rested)

pub returns-clause-went : goal.returns-clause-went
returns-clause-went c = λ told h lt.
    let empty = c.clear.new.self in
    went told c.args.rewind.now c.go_on.new.self c.args.span (TakesOf c.go_on.new.sink) h c.requires.one
    (c.in-Ok.ensures.whole h.job told.most (gone h.paths c.args.span) h.paths.path no_bytes (c.begin.ensures.going h.job told.most h.paths h.rested)
    (takes_nothing empty.video.bytes.items empty.video.count c.clear.ensures.video)
    (takes_nothing empty.sound.bytes.items empty.sound.count c.clear.ensures.sound))
    (c.go_on.ensures.slots ∙ c.begin.ensures.slots)
