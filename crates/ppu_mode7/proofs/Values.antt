-- From a place of the plane to its value.
use Rattle.std.proofs.Common.{◌≡◌, ℕ, ◌+◌, ◌-◌, ◌*◌, ◌/◌, ◌%◌, ◌<◌, ◌==◌, ◌||◌, Bool, true, false, List, slice_index, if◌then◌else◌, refl, sym, ap, subst, ◌∙◌, arith}
use Rattle.ppu_regs.specs.declared.registers.Registers.{Registers}
use Rattle.ppu_regs.specs.declared.registers.Background.{Background}
use Rattle.ppu_regs.specs.declared.registers.Outside.TheVariants.{Wrap, Nothing, TileZero}
use Rattle.ppu_regs.specs.Picture.{Picture, background_of}
use Rattle.ppu_mode7.specs.declared.places.Line.{Line}
use Rattle.ppu_mode7.specs.Lines.{IsLine, map_word, fine_of, outside_mark}
use Rattle.ppu_mode7.specs.Rotated.{pixel_of, is_outside, tile_at, texel_at, value_at, place_at, blocked, turned, column_of, rotated_value}

-- a pixel of a tile, by its place there
texel_is : (vram : List ℕ) (tile x y : ℕ) → slice_index vram (64 * tile + fine_of x y) / 256 ≡ texel_at vram tile (pixel_of x) (pixel_of y)
unfolding texel_at fine_of
texel_is vram tile x y =
    let place : 64 * tile + (8 * (pixel_of y % 8) + pixel_of x % 8) ≡ 64 * tile + 8 * (pixel_of y % 8) + pixel_of x % 8 = omega arith in
    ap (λ n. slice_index vram n / 256) place

tile_is : (vram : List ℕ) (x y : ℕ) → slice_index vram (map_word x y) % 256 ≡ tile_at vram (pixel_of x) (pixel_of y)
unfolding tile_at map_word
tile_is vram x y = refl

texel_by :
    (vram : List ℕ) (tile fine x y : ℕ) → tile ≡ slice_index vram (map_word x y) % 256 → fine ≡ fine_of x y →
    slice_index vram (64 * tile + fine) / 256 ≡ texel_at vram (tile_at vram (pixel_of x) (pixel_of y)) (pixel_of x) (pixel_of y)
texel_by vram tile fine x y t f =
    ap (λ n. slice_index vram (64 * tile + n) / 256) f ∙ texel_is vram tile x y
    ∙ ap (λ n. texel_at vram n (pixel_of x) (pixel_of y)) (t ∙ tile_is vram x y)

pub wrapped :
    (vram : List ℕ) (tile fine x y : ℕ) → tile ≡ slice_index vram (map_word x y) % 256 → fine ≡ fine_of x y →
    slice_index vram (64 * tile + fine) / 256 ≡ value_at Wrap vram x y
unfolding value_at
wrapped vram tile fine x y t f = texel_by vram tile fine x y t f

by_mark : (out : Bool) (v : ℕ) → (let m : ℕ = if out then 1 else 0 in if m == 0 then v else 0) ≡ (if out then 0 else v)
by_mark true v = refl
by_mark false v = refl

pub nothing_outside :
    (vram : List ℕ) (tile fine x y mark value : ℕ) → tile ≡ slice_index vram (map_word x y) % 256 → fine ≡ fine_of x y →
    mark ≡ outside_mark x y → value ≡ slice_index vram (64 * tile + fine) / 256 →
    (if mark == 0 then value else 0) ≡ value_at Nothing vram x y
unfolding value_at outside_mark
nothing_outside vram tile fine x y mark value t f m v =
    rw (m, v) (by_mark (is_outside x || is_outside y) (slice_index vram (64 * tile + fine) / 256)
    ∙ ap (λ n. if is_outside x || is_outside y then 0 else n) (texel_by vram tile fine x y t f))

pub zero_outside :
    (vram : List ℕ) (tile shown fine x y mark : ℕ) → tile ≡ slice_index vram (map_word x y) % 256 → fine ≡ fine_of x y →
    mark ≡ outside_mark x y → shown ≡ (if mark == 0 then tile else 0) →
    slice_index vram (64 * shown + fine) / 256 ≡ value_at TileZero vram x y
unfolding value_at outside_mark
zero_outside vram tile shown fine x y mark t f m s =
    let picked : shown ≡ (if is_outside x || is_outside y then 0 else tile_at vram (pixel_of x) (pixel_of y)) =
    s ∙ ap (λ n. if n == 0 then tile else 0) m ∙ by_mark (is_outside x || is_outside y) tile
    ∙ ap (λ n. if is_outside x || is_outside y then 0 else n) (t ∙ tile_is vram x y)
    in
    ap (λ n. slice_index vram (64 * shown + n) / 256) f ∙ texel_is vram shown x y
    ∙ ap (λ n. texel_at vram n (pixel_of x) (pixel_of y)) picked

-- the words of the map are the first half of VRAM, and a tile has 64 pixels
pub word_small : (x y : ℕ) → map_word x y < 16384
unfolding map_word
word_small x y = omega arith

pub fine_small : (x y : ℕ) → fine_of x y < 64
unfolding fine_of
fine_small x y = omega arith

-- a row's values from those of its columns
pub value_is :
    (p : Picture) (layer row x n : ℕ) (line : Line) → IsLine p.registers layer row line →
    n ≡ blocked (background_of p.registers layer).mosaic p.registers.mosaic x →
    value_at p.registers.rotation.outside p.vram
    (place_at line.start_x line.a (turned p.registers.rotation.flip_x n)) (place_at line.start_y line.c (turned p.registers.rotation.flip_x n)) ≡
    rotated_value p layer row x
unfolding rotated_value column_of
value_is p layer row x n line is at = rw (is.start_x, is.start_y, is.a, is.c, at) refl

-- the first of a pixel's mosaic block, or the pixel itself
blocked_on : (on : Bool) (mosaic x : ℕ) → on ≡ true → x - x % (mosaic + 1) ≡ blocked on mosaic x
unfolding blocked
blocked_on on mosaic x h = rw h refl

blocked_off : (on : Bool) (mosaic x : ℕ) → on ≡ false → x ≡ blocked on mosaic x
unfolding blocked
blocked_off on mosaic x h = rw h refl

pub value_in_block :
    (p : Picture) (layer row x : ℕ) (r : Registers) (b : Background) (line : Line) → r ≡ p.registers → b ≡ background_of r layer →
    IsLine r layer row line → b.mosaic ≡ true →
    (let n = x - x % (r.mosaic + 1) in
    value_at p.registers.rotation.outside p.vram
    (place_at line.start_x line.a (turned p.registers.rotation.flip_x n)) (place_at line.start_y line.c (turned p.registers.rotation.flip_x n)) ≡
    rotated_value p layer row x)
value_in_block p layer row x r b line hr hb is on =
    let same : background_of p.registers layer ≡ b = ap (λ (q : Registers). background_of q layer) (sym hr) ∙ sym hb in
    value_is p layer row x (x - x % (r.mosaic + 1)) line (subst (λ (q : Registers). IsLine q layer row line) hr is)
    (ap (λ (q : Registers). x - x % (q.mosaic + 1)) hr
    ∙ blocked_on (background_of p.registers layer).mosaic p.registers.mosaic x (ap (λ (q : Background). q.mosaic) same ∙ on))

pub value_alone :
    (p : Picture) (layer row x : ℕ) (r : Registers) (b : Background) (line : Line) → r ≡ p.registers → b ≡ background_of r layer →
    IsLine r layer row line → b.mosaic ≡ false →
    value_at p.registers.rotation.outside p.vram
    (place_at line.start_x line.a (turned p.registers.rotation.flip_x x)) (place_at line.start_y line.c (turned p.registers.rotation.flip_x x)) ≡
    rotated_value p layer row x
value_alone p layer row x r b line hr hb is off =
    let same : background_of p.registers layer ≡ b = ap (λ (q : Registers). background_of q layer) (sym hr) ∙ sym hb in
    value_is p layer row x x line (subst (λ (q : Registers). IsLine q layer row line) hr is)
    (blocked_off (background_of p.registers layer).mosaic p.registers.mosaic x (ap (λ (q : Background). q.mosaic) same ∙ off))
