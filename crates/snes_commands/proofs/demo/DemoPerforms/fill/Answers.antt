use Rattle.std.proofs.Common.{ap, ◌∙◌}
use Rattle.snes_defs.specs.declared.region.Region.TheVariants.{Ntsc}
use Rattle.clock_ratio.specs.Stamp.{samples_before_of}
use Rattle.run_io.specs.Form.{order_by}
use Rattle.snes_commands.specs.Loads.{told_in}
use Rattle.snes_commands.proofs.DemoLemmas.{few, demo_whole}
use Rattle.snes_commands.proofs.demo.DemoPerforms.fill.Goals as goal

pub end_stamp-requires : goal.end_stamp-requires
end_stamp-requires g c = few (order_by c.args.asked.now) c.requires.fits

pub returns-clause-whole : goal.returns-clause-whole
returns-clause-whole g c =
    let shows = g.H.Shelf.shown in
    let r = c.requires.ready in
    demo_whole g.P.Player.emits (order_by c.args.asked.now) (told_in (shows c.args._shelf.now) c.args.asked.now.pairs.now) r.0 r.1 (shows c.args._shelf.now) c.samples_before-samples.result c.play_turns.new.sink c.demo_line.result
    (c.in-Ok.ensures.whole r.0 r.2) (c.samples_before-samples.ensures.number ∙ ap (samples_before_of Ntsc) c.end_stamp.ensures) c.demo_line.ensures.text
