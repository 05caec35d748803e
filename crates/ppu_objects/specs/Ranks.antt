-- The rank byte of an object's pixel.
use Rattle.std.specs.Prelude.{◌≡◌, ℕ, ◌+◌, ◌<◌, Bool, false, ◌&&◌, List, [], ◌∷◌, slice_index, if◌then◌else◌}
use Rattle.ppu_regs.specs.declared.dots.LayerDot.{LayerDot}

-- the byte of a priority, and bit 3 where 2131 names the objects and the palette may take part
unfoldable pub rank_byte : List ℕ → Bool → ℕ → Bool → ℕ
rank_byte bases named priority math = slice_index bases priority + (if named && math then 8 else 0)

-- the rank byte of an object's dot, 0 if nothing is there
unfoldable pub object_rank : List ℕ → Bool → LayerDot → ℕ
object_rank bases named c = if c.on then rank_byte bases named c.priority c.math else 0

-- the bases by which a row of dots tells its priorities
abbrev pub row_bases : List ℕ
row_bases = 16 ∷ 32 ∷ 48 ∷ 64 ∷ []

-- what an object can have at a pixel: one of four priorities, and no direct colour nor its palette
pub record IsOfObjects (c : LayerDot) : Type 0 where
  pub priority : c.priority < 4
  pub direct : c.direct ≡ false
  pub palette : c.palette ≡ 0
