-- The bytes of a number are its pixels, in its order or turned over.
use Rattle.std.proofs.Common.{◌≡◌, ◌-◌, ◌∙◌, arith}
use Rattle.tile_cache.specs.Bitplanes.{packed}
use Rattle.tile_cache.proofs.Packing.{bytes_of_packed, packed_turned}
use Rattle.tile_cache.proofs.eights.bytes_of.Goals.{then-flip, else-flip}
use Rattle.tile_cache.proofs.eights.bytes_of.Goals as goal

pub returns : goal.returns
returns c f small is = elim c.if-flip.branch [
  | then-flip w ↦ (
      let number : c.if-flip.turned ≡ packed (λ k. f (7 - k)) =
      w.turned-is ∙ w.swap_bytes-turned.ensures ∙ packed_turned f c.args.pixels small is
      in
      rw w.if-flip.true
      (c.to_le_bytes.ensures ∙ bytes_of_packed (λ k. f (7 - k)) c.if-flip.turned (λ k h. small (7 - k) (omega arith)) number)
      )
  | else-flip w ↦ rw w.if-flip.false (c.to_le_bytes.ensures ∙ bytes_of_packed f c.if-flip.turned small (w.turned-is ∙ is))
]
