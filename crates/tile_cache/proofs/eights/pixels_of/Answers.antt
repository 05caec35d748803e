-- A word's pixels are the bits of its bytes.
use Rattle.tile_cache.proofs.Packing.{pixels_are}
use Rattle.tile_cache.proofs.eights.pixels_of.Goals as goal

pub returns-clause-value : goal.returns-clause-value
returns-clause-value c = rw (c.spread.ensures.value, c.spread-2.ensures.value) (pixels_are c.args.word)
