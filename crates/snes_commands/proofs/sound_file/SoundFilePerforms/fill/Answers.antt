use Rattle.std.proofs.Common.{List, ℕ, subst}
use Rattle.shelf.specs.declared.shelves.Out.TheVariants.{Spc}
use Rattle.shelf.specs.Told.{Appends, AppendsSome}
use Rattle.run_io.specs.Form.{order_by}
use Rattle.snes_commands.specs.Loads.{told_in}
use Rattle.snes_commands.proofs.SoundFileLemmas.{taken, spc_whole, spc_first, spc_all}
use Rattle.snes_commands.proofs.sound_file.SoundFilePerforms.fill.Goals as goal

pub tagged-bytes-requires : goal.tagged-bytes-requires
tagged-bytes-requires g c = taken (order_by c.args.asked.now) c.requires.fits

pub returns-in-Ok-clause-whole : goal.returns-in-Ok-clause-whole
returns-in-Ok-clause-whole g c =
    let a = g.H.Shelf.shown c.args.shelf.now in
    let b = g.H.Shelf.shown c.put.new.self in
    let r = c.requires.ready in
    spc_whole g.Z.StatePlayer.leaves (order_by c.args.asked.now) (told_in a c.args.asked.now.pairs.now) r.0 r.1 c.play_state-file.result.items (c.play_state-file.ensures r.0 r.2) c.tagged-bytes.result.items c.tagged-bytes.ensures a b c.requires.created.0 _ r.4
    (subst (λ (bytes : List ℕ). Appends (a.written Spc) (b.written Spc) bytes) c.as_slice.ensures.value c.in-Ok.ensures.appended)

pub returns-in-Ok-clause-first : goal.returns-in-Ok-clause-first
returns-in-Ok-clause-first g c =
    let a = g.H.Shelf.shown c.args.shelf.now in
    let b = g.H.Shelf.shown c.put.new.self in
    let r = c.requires.ready in
    spc_all g.Z.StatePlayer.leaves (order_by c.args.asked.now) (told_in a c.args.asked.now.pairs.now) r.0 r.1 c.play_state-file.result.items (c.play_state-file.ensures r.0 r.2) c.tagged-bytes.result.items c.tagged-bytes.ensures a b c.requires.created.0
    (subst (λ (bytes : List ℕ). Appends (a.written Spc) (b.written Spc) bytes) c.as_slice.ensures.value c.in-Ok.ensures.appended)

pub returns-clause-first : goal.returns-clause-first
returns-clause-first g c =
    let a = g.H.Shelf.shown c.args.shelf.now in
    let b = g.H.Shelf.shown c.put.new.self in
    let r = c.requires.ready in
    spc_first g.Z.StatePlayer.leaves (order_by c.args.asked.now) (told_in a c.args.asked.now.pairs.now) r.0 r.1 c.play_state-file.result.items (c.play_state-file.ensures r.0 r.2) c.tagged-bytes.result.items c.tagged-bytes.ensures a b c.requires.created.0
    (subst (λ (bytes : List ℕ). AppendsSome (a.written Spc) (b.written Spc) bytes) c.as_slice.ensures.value c.in-Err.ensures.prefix)
