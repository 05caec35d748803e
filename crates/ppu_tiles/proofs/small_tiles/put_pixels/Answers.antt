-- With no mirrored entry, each pixel is where it is.
use Rattle.std.proofs.Common.{◌≡◌, ℕ, ◌-◌, ◌*◌, ◌/◌, ◌%◌, ◌<◌, ◌==◌, List, if◌then◌else◌, refl, ◌∙◌, arith}
use Rattle.tile_cache.specs.Bitplanes.{value_of}
use Rattle.ppu_tiles.proofs.small_tiles.put_pixels.Goals as goal

straight :
    (vram : List ℕ) (word depth turned k : ℕ) → turned ≡ 0 →
    value_of vram word depth k ≡ value_of vram word depth (if turned == 1 then 7 - k else k)
straight vram word depth turned k h = rw h refl

pub returns-after-loop-c-else-is_any_turned : goal.returns-after-loop-c-else-is_any_turned
returns-after-loop-c-else-is_any_turned c = λ vram step k h.
    let done : k < 8 * c.loop-c-else-is_any_turned.c =
    omega (arith, c.loop-c-else-is_any_turned-test.false, c.loop-c-else-is_any_turned.auto.c-end, h) in
    c.loop-c-else-is_any_turned.invariant vram step k done
    ∙ straight vram _ c.args.bits _ (k % 8) (c.is_any_turned.ensures (k / 8) (omega arith) c.if-is_any_turned.false)
