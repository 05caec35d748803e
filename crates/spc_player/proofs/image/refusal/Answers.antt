use Rattle.std.proofs.Common.{arith}
use Rattle.std.proofs.lemmas.List.{length-take}
use Rattle.spc_player.proofs.image.refusal.Goals as goal

-- the file is longer than the text
pub slice_bounds-ne-end : goal.slice_bounds-ne-end
slice_bounds-ne-end c = omega (arith, length-take 27 c.args.file.now, c.if-file-lt-LEAST.false)
