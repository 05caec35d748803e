-- The bytes are those of the line.
use Rattle.tile_cache.specs.Bitplanes.{value_of}
use Rattle.tile_cache.proofs.Packing.{value_below}
use Rattle.tile_cache.proofs.cache.TileCache.turned_line.Goals as goal

pub returns : goal.returns
returns c vram step =
    c.bytes_of.ensures (value_of vram c.args.word c.args.depth) (λ k h. value_below vram c.args.word c.args.depth k) (c.pixels.ensures vram step)
