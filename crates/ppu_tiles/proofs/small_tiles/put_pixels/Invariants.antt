use Rattle.std.proofs.Common.{◌≡◌, ℕ, ◌-◌, ◌*◌, ◌/◌, ◌%◌, ◌<◌, ◌==◌, List, slice_index, if◌then◌else◌}
use Rattle.tile_cache.specs.Bitplanes.{IsInStep, value_of}
use Rattle.ppu_tiles.proofs.small_tiles.put_pixels.Given as goal

abbrev pub invariant-loop-c : goal.invariant-loop-c
invariant-loop-c l = (vram : List ℕ) → IsInStep l.tiles vram → (k : ℕ) → k < 8 * l.c → slice_index l.values k ≡
    value_of vram (slice_index l.words (k / 8)) l.bits
    (if slice_index l.entries (k / 8) / 16384 % 2 == 1 then 7 - k % 8 else k % 8)

-- with no mirrored entry, each pixel is where it is
abbrev pub invariant-loop-c-else-is_any_turned : goal.invariant-loop-c-else-is_any_turned
invariant-loop-c-else-is_any_turned l = (vram : List ℕ) → IsInStep l.tiles vram → (k : ℕ) → k < 8 * l.c → slice_index l.values k ≡
    value_of vram (slice_index l.words (k / 8)) l.bits (k % 8)
