use Rattle.std.proofs.Common.{sym, arith, take, length}
use Rattle.std.proofs.lemmas.List.{length-take}
use Rattle.sound_tags.proofs.sound_file.refusal.Goals as goal

-- the file is longer than the text
pub slice_bounds-ne-end : goal.slice_bounds-ne-end
slice_bounds-ne-end c = omega (arith, length-take 27 c.args.file.now, c.if-file-lt-LEAST.false)
