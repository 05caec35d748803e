-- The pixels of two words, four times the second's.
use Rattle.std.proofs.Common.{◌+◌, ◌*◌, arith}
use Rattle.tile_cache.specs.Bitplanes.{pixel_of}
use Rattle.tile_cache.proofs.Packing.{pixel_small, sum_of_four}
use Rattle.tile_cache.proofs.eights.line_of_words.Goals as goal

pub returns : goal.returns
returns c = c.bytes_of.ensures (λ k. pixel_of c.args.first k + 4 * pixel_of c.args.second k)
    (λ k h. let a = pixel_small c.args.first k in let b = pixel_small c.args.second k in omega (arith, a, b))
    (rw (c.pixels_of.ensures.value, c.pixels_of-2.ensures.value) (sum_of_four (pixel_of c.args.first) (pixel_of c.args.second)))
