-- What the eight pixels of a column have in common, and that a row is its columns side by side.
use Rattle.std.proofs.Common.{◌≡◌, ℕ, ◌+◌, ◌-◌, ◌*◌, ◌/◌, ◌%◌, ◌<◌, ◌≤◌, ◌==◌, ◌||◌, ◌&&◌, not, List, Bool, true, false, slice_index, if◌then◌else◌, inl, inr, zero, suc, refl, sym, ap, ◌∙◌, arith}
use Rattle.std.proofs.lemmas.Bool.{cases_lt}
use Rattle.ppu_regs.specs.declared.registers.Registers.{Registers}
use Rattle.ppu_regs.specs.declared.registers.Background.{Background}
use Rattle.ppu_regs.specs.Picture.{Picture, background_of}
use Rattle.ppu_regs.specs.Dots.{rank_of}
use Rattle.tile_cache.specs.Bitplanes.{pixel_of, value_of, eight}
use Rattle.ppu_tiles.specs.declared.scrolls.Scroll.{Scroll}
use Rattle.ppu_tiles.specs.Modes.{depth_of, is_hires, tile_width}
use Rattle.ppu_tiles.specs.Backgrounds.{own_scroll, two_offsets, one_offset, column_scroll, entry_at, turned, line_word, pixel_at, number_of, layer_dot_of, layer_dot_at, block_start, background_layer_dot}
use Rattle.ppu_tiles.specs.Columns.{half_word, half_value, column_start, column_place, column_entry, column_value, column_base, column_first, base_of}

-- within an eight of pixels, the places in a tile are those of one half of it
half_same :
    (flip wide : Bool) (m k : ℕ) → k < 8 →
    turned flip (if wide then 16 else 8) (8 * m + k) / 8 ≡ turned flip (if wide then 16 else 8) (8 * m) / 8
half_same true true m k h = omega arith
half_same true false m k h = omega arith
half_same false true m k h = omega arith
half_same false false m k h = omega arith

place_in_half :
    (flip wide : Bool) (m k : ℕ) → k < 8 →
    turned flip (if wide then 16 else 8) (8 * m + k) % 8 ≡ (if flip then 7 - k else k)
place_in_half true true m k h = omega arith
place_in_half true false m k h = omega arith
place_in_half false true m k h = omega arith
place_in_half false false m k h = omega arith

half_word_small : (b : Background) (depth entry x py : ℕ) → half_word b depth entry x py < 32768
unfolding half_word line_word
half_word_small b depth entry x py = omega arith

-- where no entry is wide by the mode: eight pixels of an entry are a line of one tile
line_is :
    (p : Picture) (b : Background) (depth entry m k py : ℕ) → k < 8 →
    half_value p.vram b depth entry (tile_width p.registers.mode b) (8 * m) py k ≡ pixel_at p b depth entry (8 * m + k) py
unfolding pixel_at half_value half_word
line_is p b depth entry m k py h =
    let same = half_same (entry / 16384 % 2 == 1) (is_hires p.registers.mode || b.large) m k h in
    let place = place_in_half (entry / 16384 % 2 == 1) (is_hires p.registers.mode || b.large) m k h in
    cc

pub line_value :
    (p : Picture) (b : Background) (depth entry m odd k py : ℕ) → k < 8 → is_hires p.registers.mode ≡ false →
    half_value p.vram b depth entry (tile_width p.registers.mode b) (8 * m) py k ≡ pixel_at p b depth entry (column_place p.registers.mode m odd k) py
line_value p b depth entry m odd k py h lores =
    let place : column_place p.registers.mode m odd k ≡ 8 * m + k = rw lores refl in
    line_is p b depth entry m k py h ∙ ap (λ px. pixel_at p b depth entry px py) (sym place)

-- in modes 5 and 6 a tile has sixteen pixels, eight in each half
turned_wide :
    (flip : Bool) (m q : ℕ) → turned flip 16 (16 * m + q) ≡ turned flip 16 q
turned_wide true m q = omega arith
turned_wide false m q = omega arith

wide_is :
    (p : Picture) (b : Background) (depth entry m half k py : ℕ) → k < 8 → is_hires p.registers.mode ≡ true →
    half_value p.vram b depth entry 16 (8 * half) py k ≡ pixel_at p b depth entry (16 * m + (8 * half + k)) py
unfolding pixel_at half_value half_word
wide_is p b depth entry m half k py h wide =
    let size : tile_width p.registers.mode b ≡ 16 = rw wide refl in
    let turned_is = turned_wide (entry / 16384 % 2 == 1) m (8 * half + k) in
    let same = half_same (entry / 16384 % 2 == 1) true half k h in
    let place = place_in_half (entry / 16384 % 2 == 1) true half k h in
    rw (size, turned_is) cc

pub wide_value :
    (p : Picture) (b : Background) (depth entry m half odd k py : ℕ) → k < 4 → odd < 2 → is_hires p.registers.mode ≡ true →
    half_value p.vram b depth entry 16 (8 * half) py (2 * k + odd) ≡
    pixel_at p b depth entry (column_place p.registers.mode m odd (4 * half + k)) py
wide_value p b depth entry m half odd k py h ho wide =
    let place : 16 * m + (8 * half + (2 * k + odd)) ≡ 2 * (8 * m + (4 * half + k)) + odd = omega arith in
    let column : column_place p.registers.mode m odd (4 * half + k) ≡ 2 * (8 * m + (4 * half + k)) + odd = rw wide refl in
    wide_is p b depth entry m half (2 * k + odd) py (omega arith) wide ∙ ap (λ px. pixel_at p b depth entry px py) (place ∙ sym column)

-- an element of eight
pub eight_at : (f : ℕ → ℕ) (k : ℕ) → k < 8 → slice_index (eight f) k ≡ f k
eight_at f zero h = refl
eight_at f (suc zero) h = refl
eight_at f (suc (suc zero)) h = refl
eight_at f (suc (suc (suc zero))) h = refl
eight_at f (suc (suc (suc (suc zero)))) h = refl
eight_at f (suc (suc (suc (suc (suc zero))))) h = refl
eight_at f (suc (suc (suc (suc (suc (suc zero)))))) h = refl
eight_at f (suc (suc (suc (suc (suc (suc (suc zero))))))) h = refl
eight_at f (suc (suc (suc (suc (suc (suc (suc (suc k)))))))) h = absurd (omega arith)

-- eight pixels that were put in two halves, of the two halves of a tile
half_put :
    (p : Picture) (b : Background) (depth entry m half odd py k j : ℕ) (line : List ℕ) → k < 4 → odd < 2 →
    is_hires p.registers.mode ≡ true → line ≡ eight (half_value p.vram b depth entry 16 (8 * half) py) → 4 * half + k ≡ j →
    slice_index line (2 * k + odd) ≡ pixel_at p b depth entry (column_place p.registers.mode m odd j) py
half_put p b depth entry m half odd py k j line h ho wide is place =
    ap (λ l. slice_index l (2 * k + odd)) is
    ∙ eight_at (half_value p.vram b depth entry 16 (8 * half) py) (2 * k + odd) (omega arith)
    ∙ wide_value p b depth entry m half odd k py h ho wide
    ∙ ap (λ n. pixel_at p b depth entry (column_place p.registers.mode m odd n) py) place

pub halves_put :
    (p : Picture) (b : Background) (depth entry m odd py at : ℕ) (left right one two : List ℕ) → odd < 2 →
    is_hires p.registers.mode ≡ true → left ≡ eight (half_value p.vram b depth entry 16 0 py) →
    right ≡ eight (half_value p.vram b depth entry 16 8 py) →
    ((k : ℕ) → k < 4 → slice_index one (at + k) ≡ slice_index left (2 * k + odd)) →
    ((k : ℕ) → k < 4 → slice_index two (at + 4 + k) ≡ slice_index right (2 * k + odd)) →
    ((k : ℕ) → k < at + 4 → slice_index two k ≡ slice_index one k) →
    (k : ℕ) → k < 8 → slice_index two (at + k) ≡ pixel_at p b depth entry (column_place p.registers.mode m odd k) py
halves_put p b depth entry m odd py at left right one two ho wide is_left is_right first second kept k h = elim (cases_lt k 4) [
  | inl below ↦ kept (at + k) (omega arith) ∙ first k below
      ∙ half_put p b depth entry m 0 odd py k k left below ho wide is_left (omega arith)
  | inr above ↦ (
      let place : at + 4 + (k - 4) ≡ at + k = omega arith in
      ap (λ n. slice_index two n) (sym place) ∙ second (k - 4) (omega arith)
      ∙ half_put p b depth entry m 1 odd py (k - 4) k right (omega arith) ho wide is_right (omega arith)
      )
]

-- and eight that were put at once, of one tile
pub line_put :
    (p : Picture) (b : Background) (depth entry m odd py at width : ℕ) (line row : List ℕ) →
    is_hires p.registers.mode ≡ false → width ≡ tile_width p.registers.mode b →
    line ≡ eight (half_value p.vram b depth entry width (8 * m) py) →
    ((k : ℕ) → k < 8 → slice_index row (at + k) ≡ slice_index line k) →
    (k : ℕ) → k < 8 → slice_index row (at + k) ≡ pixel_at p b depth entry (column_place p.registers.mode m odd k) py
line_put p b depth entry m odd py at width line row lores size is put k h =
    put k h ∙ ap (λ l. slice_index l k) is ∙ eight_at (half_value p.vram b depth entry width (8 * m) py) k h
    ∙ ap (λ w. half_value p.vram b depth entry w (8 * m) py k) size
    ∙ line_value p b depth entry m odd k py h lores

-- all pixels of a column have one map entry
tile_same :
    (hires large : Bool) (m odd j : ℕ) → odd < 2 → j < 8 →
    (if hires then 2 * (8 * m + j) + odd else 8 * m + j) / (if hires || large then 16 else 8) ≡
    (if hires then 16 * m else 8 * m) / (if hires || large then 16 else 8)
tile_same true large m odd j ho hj = omega arith
tile_same false true m odd j ho hj = omega arith
tile_same false false m odd j ho hj = omega arith

entry_same :
    (p : Picture) (b : Background) (m odd j py : ℕ) → odd < 2 → j < 8 →
    entry_at p b (column_place p.registers.mode m odd j) py ≡ entry_at p b (column_start p.registers.mode m) py
unfolding entry_at
entry_same p b m odd j py ho hj =
    let same = tile_same (is_hires p.registers.mode) b.large m odd j ho hj in cc

-- a column's scroll has the low three bits of the layer's
fine_of_offsets :
    (layer : ℕ) (own : Scroll) (first second : ℕ) → (two_offsets layer own first second).across % 8 ≡ own.across % 8
unfolding two_offsets
fine_of_offsets layer own first second = grind arith

fine_of_offset : (layer : ℕ) (own : Scroll) (entry : ℕ) → (one_offset layer own entry).across % 8 ≡ own.across % 8
unfolding one_offset
fine_of_offset layer own entry = grind arith

fine_of_column :
    (p : Picture) (layer c : ℕ) → (column_scroll p layer c).across % 8 ≡ (background_of p.registers layer).scroll_x % 8
unfolding column_scroll own_scroll
fine_of_column p layer c = grind (arith, fine_of_offsets, fine_of_offset)

place_is :
    (hires : Bool) (x fine across odd : ℕ) → across % 8 ≡ fine →
    (if hires then 2 * (x + across) + odd else x + across) ≡
    (if hires then 2 * (8 * ((x + fine) / 8 + across / 8) + (x + fine) % 8) + odd else 8 * ((x + fine) / 8 + across / 8) + (x + fine) % 8)
place_is true x fine across odd h = omega arith
place_is false x fine across odd h = omega arith

-- a row is its columns side by side
column_is :
    (p : Picture) (layer y x odd : ℕ) → odd < 2 →
    (let n = x + (background_of p.registers layer).scroll_x % 8 in
    layer_dot_at p layer y x odd ≡ layer_dot_of p.registers layer (column_entry p layer y (n / 8)) (column_value p layer y odd (n / 8) (n % 8)))
unfolding layer_dot_at column_value
column_is p layer y x odd ho =
    let b = background_of p.registers layer in
    let n = x + b.scroll_x % 8 in
    let s = column_scroll p layer (n / 8) in
    let place = place_is (is_hires p.registers.mode) x (b.scroll_x % 8) s.across odd (fine_of_column p layer (n / 8)) in
    let entry = entry_same p b (n / 8 + s.across / 8) odd (n % 8) (y + 1 + s.down) ho (omega arith) in
    rw (place, entry) refl

-- the bytes of an entry and a value
rank_by_value : (b : Bool) (n : ℕ) → (if b then 0 else n) ≡ (if not b then n else 0)
rank_by_value true n = refl
rank_by_value false n = refl

rank_of_value :
    (r : Registers) (layer entry value low high : ℕ) →
    (if value == 0 then 0
    else (if entry / 8192 % 2 == 1 then high else low) + (if (depth_of r.mode layer == 8) && r.colour.direct then entry / 1024 % 8 else 0)) ≡
    rank_of (base_of low high (layer_dot_of r layer entry value)) (layer_dot_of r layer entry value)
unfolding rank_of layer_dot_of
rank_of_value r layer entry value low high = rank_by_value (value == 0) _

pub column_rank :
    (p : Picture) (layer y x odd low high : ℕ) → odd < 2 →
    (let n = x + (background_of p.registers layer).scroll_x % 8 in
    let c = layer_dot_at p layer y x odd in
    (if column_value p layer y odd (n / 8) (n % 8) == 0 then 0 else column_base p layer y low high (n / 8)) ≡ rank_of (base_of low high c) c)
unfolding column_base
column_rank p layer y x odd low high ho =
    let n = x + (background_of p.registers layer).scroll_x % 8 in
    rw (column_is p layer y x odd ho)
    (rank_of_value p.registers layer (column_entry p layer y (n / 8)) (column_value p layer y odd (n / 8) (n % 8)) low high)

-- the number of a value is at most its palette's last
pixel_small : (word k : ℕ) → pixel_of word k < 4
unfolding pixel_of
pixel_small word k = omega arith

value_small :
    (vram : List ℕ) (word depth k : ℕ) → value_of vram word depth k < (if depth == 2 then 4 else if depth == 4 then 16 else 256)
unfolding value_of
value_small vram word depth k =
    let a = pixel_small (slice_index vram word) k in
    let b = pixel_small (slice_index vram ((word + 8) % 32768)) k in
    let c = pixel_small (slice_index vram ((word + 16) % 32768)) k in
    let d = pixel_small (slice_index vram ((word + 24) % 32768)) k in
    grind arith

column_small :
    (p : Picture) (layer y odd c j : ℕ) →
    (let depth = depth_of p.registers.mode layer in
    column_value p layer y odd c j < (if depth == 2 then 4 else if depth == 4 then 16 else 256))
unfolding column_value pixel_at
column_small p layer y odd c j = value_small p.vram _ (depth_of p.registers.mode layer) _

number_is :
    (mode layer depth palette value : ℕ) → layer ≤ 4 → palette < 8 →
    value < (if depth == 2 then 4 else if depth == 4 then 16 else 256) →
    (number_of mode layer depth palette 0 + value) % 256 ≡ number_of mode layer depth palette value
unfolding number_of
number_is mode layer depth palette value hl hp hv = grind arith

number_of_value :
    (r : Registers) (layer entry value : ℕ) → layer ≤ 4 →
    value < (if depth_of r.mode layer == 2 then 4 else if depth_of r.mode layer == 4 then 16 else 256) →
    (number_of r.mode layer (depth_of r.mode layer) (entry / 1024 % 8) 0 + value) % 256 ≡ (layer_dot_of r layer entry value).number
unfolding layer_dot_of
number_of_value r layer entry value hl hv = number_is r.mode layer (depth_of r.mode layer) (entry / 1024 % 8) value hl (omega arith) hv

pub column_number :
    (p : Picture) (layer y x odd : ℕ) → odd < 2 → layer ≤ 4 →
    (let n = x + (background_of p.registers layer).scroll_x % 8 in
    (column_first p layer y (n / 8) + column_value p layer y odd (n / 8) (n % 8)) % 256 ≡ (layer_dot_at p layer y x odd).number)
unfolding column_first
column_number p layer y x odd ho hl =
    let n = x + (background_of p.registers layer).scroll_x % 8 in
    rw (column_is p layer y x odd ho)
    (number_of_value p.registers layer (column_entry p layer y (n / 8)) (column_value p layer y odd (n / 8) (n % 8)) hl (column_small p layer y odd (n / 8) (n % 8)))

-- the dot of a pair
pub layer_dot_is :
    (p : Picture) (layer row x odd : ℕ) → odd < 2 →
    (let b = background_of p.registers layer in
    layer_dot_at p layer (block_start p.registers b row) (block_start p.registers b x) odd ≡ background_layer_dot p layer row (2 * x + odd))
unfolding background_layer_dot
layer_dot_is p layer row x odd ho =
    let pair : (2 * x + odd) / 2 ≡ x = omega arith in
    let dot : (2 * x + odd) % 2 ≡ odd = omega arith in
    rw (pair, dot) refl

pub block_before : (r : Registers) (b : Background) (x : ℕ) → block_start r b x ≤ x
unfolding block_start
block_before r b x = grind arith

-- the two bytes of a dot, from a painted row that begins at the scroll's low three bits
pub row_rank :
    (p : Picture) (layer y odd low high x from : ℕ) (values bases : List ℕ) → odd < 2 →
    from ≡ (background_of p.registers layer).scroll_x % 8 →
    slice_index values (x + from) ≡ column_value p layer y odd ((x + from) / 8) ((x + from) % 8) →
    slice_index bases (x + from) ≡ column_base p layer y low high ((x + from) / 8) →
    (let c = layer_dot_at p layer y x odd in
    (if slice_index values (x + from) == 0 then 0 else slice_index bases (x + from)) ≡ rank_of (base_of low high c) c)
row_rank p layer y odd low high x from values bases ho hf hv hb = rw (hv, hb) (rw hf (column_rank p layer y x odd low high ho))

pub row_number :
    (p : Picture) (layer y odd x from : ℕ) (values firsts : List ℕ) → odd < 2 → layer ≤ 4 →
    from ≡ (background_of p.registers layer).scroll_x % 8 →
    slice_index values (x + from) ≡ column_value p layer y odd ((x + from) / 8) ((x + from) % 8) →
    slice_index firsts (x + from) ≡ column_first p layer y ((x + from) / 8) →
    (slice_index firsts (x + from) + slice_index values (x + from)) % 256 ≡ (layer_dot_at p layer y x odd).number
row_number p layer y odd x from values firsts ho hl hf hv hb = rw (hv, hb) (rw hf (column_number p layer y x odd ho hl))

pub odd_small : (odd : Bool) → (if odd then 1 else 0) < 2
odd_small true = omega arith
odd_small false = omega arith

-- the layer dot of a row that stands at its blocks' first
pub row_layer_dot :
    (p : Picture) (layer row x odd y : ℕ) (r : Registers) (b : Background) → odd < 2 → r ≡ p.registers → b ≡ background_of r layer →
    y ≡ block_start r b row → layer_dot_at p layer y (block_start r b x) odd ≡ background_layer_dot p layer row (2 * x + odd)
row_layer_dot p layer row x odd y r b ho hr hb hy = let e = layer_dot_is p layer row x odd ho in cc
