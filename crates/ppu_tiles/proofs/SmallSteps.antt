-- Rows of small tiles in modes without scrolls by column: where their map entries stand, and what their pixels are.
use Rattle.std.proofs.Common.{◌≡◌, ℕ, ◌+◌, ◌-◌, ◌*◌, ◌/◌, ◌%◌, ◌<◌, ◌≤◌, ◌==◌, List, Bool, true, false, slice_index, if◌then◌else◌, inl, inr, subst, refl, sym, ap, ◌∙◌, arith}
use Rattle.std.proofs.lemmas.Bool.{cases_lt}
use Rattle.ppu_regs.specs.declared.registers.Background.{Background}
use Rattle.ppu_regs.specs.Picture.{Picture, background_of}
use Rattle.ppu_regs.specs.Dots.{rank_of}
use Rattle.tile_cache.specs.Bitplanes.{value_of}
use Rattle.ppu_tiles.specs.declared.scrolls.Scroll.{Scroll}
use Rattle.ppu_tiles.specs.Modes.{depth_of, is_hires, has_offsets, tile_width}
use Rattle.ppu_tiles.specs.Backgrounds.{map_word, own_scroll, column_scroll, entry_at, turned, number_of, layer_dot_at}
use Rattle.ppu_tiles.specs.Columns.{base_of, half_word, half_value, attribute_of, column_m, column_row, column_entry, column_value, column_base, column_first}
use Rattle.ppu_tiles.proofs.ColumnSteps.{line_value, column_rank, column_number}

-- a row of eights is one eight longer
pub one_more :
    (f : ℕ → ℕ → ℕ) (row before : List ℕ) (c : ℕ) → ((k : ℕ) → k < 8 * c → slice_index before k ≡ f (k / 8) (k % 8)) →
    ((k : ℕ) → k < 8 → slice_index row (8 * c + k) ≡ f c k) → ((k : ℕ) → k < 8 * c → slice_index row k ≡ slice_index before k) →
    (k : ℕ) → k < 8 * (c + 1) → slice_index row k ≡ f (k / 8) (k % 8)
one_more f row before c done put below k h =
    elim (cases_lt k (8 * c)) [
      | inl earlier ↦ below k earlier ∙ done k earlier
      | inr here ↦ (
          let place : 8 * c + k % 8 ≡ k = omega arith in
          let column : c ≡ k / 8 = omega arith in
          subst (λ n. slice_index row n ≡ f (k / 8) (k % 8)) place
          (subst (λ n. slice_index row (8 * c + k % 8) ≡ f n (k % 8)) column (put (k % 8) (omega arith)))
          )
    ]

-- places of a line of 32 words that lies whole before the end of VRAM
within_line :
    (base line right below k : ℕ) → k < 32 → (base + line + 0 + right + below) % 32768 ≤ 32736 →
    (base + line + k + right + below) % 32768 ≡ (base + line + 0 + right + below) % 32768 + k
within_line base line right below k hk h = omega arith

same_screen : (first c : ℕ) → c < 32 - first % 32 → (first + c) / 32 % 2 ≡ first / 32 * 32 / 32 % 2
same_screen first c h = omega arith

place_near : (first c : ℕ) → c < 32 - first % 32 → (first + c) % 32 ≡ first % 32 + c
place_near first c h = omega arith

pub near :
    (b : Background) (first c row : ℕ) → c < 32 - first % 32 → map_word b (first / 32 * 32) row ≤ 32736 →
    map_word b (first + c) row ≡ map_word b (first / 32 * 32) row + first % 32 + c
unfolding map_word
near b first c row h hl =
    let screen : (first + c) / 32 % 2 ≡ first / 32 * 32 / 32 % 2 = same_screen first c h in
    let place : (first + c) % 32 ≡ first % 32 + c = place_near first c h in
    let begin : first / 32 * 32 % 32 ≡ 0 = omega arith in
    let small : first % 32 + c < 32 = omega arith in
    grind (arith, within_line)

next_screen : (first c : ℕ) → 32 - first % 32 ≤ c → c < 33 → (first + c) / 32 % 2 ≡ (first / 32 * 32 + 32) / 32 % 2
next_screen first c h hc = omega arith

place_far : (first c : ℕ) → 32 - first % 32 ≤ c → c < 33 → (first + c) % 32 ≡ c - (32 - first % 32)
place_far first c h hc = omega arith

pub far :
    (b : Background) (first c row : ℕ) → 32 - first % 32 ≤ c → c < 33 → map_word b (first / 32 * 32 + 32) row ≤ 32736 →
    map_word b (first + c) row ≡ map_word b (first / 32 * 32 + 32) row + (c - (32 - first % 32))
unfolding map_word
far b first c row h hc hl =
    let screen : (first + c) / 32 % 2 ≡ (first / 32 * 32 + 32) / 32 % 2 = next_screen first c h hc in
    let place : (first + c) % 32 ≡ c - (32 - first % 32) = place_far first c h hc in
    let begin : (first / 32 * 32 + 32) % 32 ≡ 0 = omega arith in
    let small : c - (32 - first % 32) < 32 = omega arith in
    grind (arith, within_line)

-- without scrolls by column, each column has the layer's own
scroll_is :
    (p : Picture) (b : Background) (layer c : ℕ) (own : Scroll) → b ≡ background_of p.registers layer → own ≡ own_scroll b →
    has_offsets p.registers.mode ≡ false → column_scroll p layer c ≡ own
unfolding column_scroll
scroll_is p b layer c own hb ho hf = rw hf (ap own_scroll (sym hb) ∙ sym ho)

pub entry_is :
    (p : Picture) (b : Background) (layer y c : ℕ) (own : Scroll) → b ≡ background_of p.registers layer → own ≡ own_scroll b →
    b.large ≡ false → is_hires p.registers.mode ≡ false → has_offsets p.registers.mode ≡ false →
    column_entry p layer y c ≡ slice_index p.vram (map_word b (own.across / 8 + c) ((y + 1 + own.down) / 8))
unfolding entry_at map_word
entry_is p b layer y c own hb ho hl hh hf =
    let scroll : column_scroll p layer c ≡ own = scroll_is p b layer c own hb ho hf in
    let column : 8 * (c + own.across / 8) / 8 ≡ own.across / 8 + c = omega arith in
    rw (scroll, sym hb, hh, hl) (ap (λ n. slice_index p.vram (map_word b n ((y + 1 + own.down) / 8))) column)

-- a small tile's line is one, whichever of its pixels is meant
word_of_small :
    (b : Background) (depth entry x py : ℕ) → x < 8 → half_word b depth entry x py ≡ half_word b depth entry 0 py
unfolding half_word
word_of_small b depth entry x py h =
    let none : x / 8 ≡ 0 = omega arith in rw none refl

turned_small : (flip : Bool) (m : ℕ) → turned flip 8 (8 * m) < 8
turned_small true m = omega arith
turned_small false m = omega arith

pub small_value :
    (p : Picture) (b : Background) (layer y odd c j py bits : ℕ) (own : Scroll) → j < 8 → b ≡ background_of p.registers layer →
    own ≡ own_scroll b → bits ≡ depth_of p.registers.mode layer → b.large ≡ false → is_hires p.registers.mode ≡ false →
    has_offsets p.registers.mode ≡ false → py ≡ y + 1 + own.down →
    (let entry = column_entry p layer y c in
    value_of p.vram (half_word b bits entry 0 py) bits (if entry / 16384 % 2 == 1 then 7 - j else j) ≡ column_value p layer y odd c j)
unfolding column_value half_value
small_value p b layer y odd c j py bits own hj hb ho hd hl hh hf hp =
    let entry = column_entry p layer y c in
    let m = column_m p layer c in
    let size : tile_width p.registers.mode b ≡ 8 = rw (hh, hl) refl in
    let flip : Bool = entry / 16384 % 2 == 1 in
    let small : turned flip (tile_width p.registers.mode b) (8 * m) < 8 = rw size (turned_small flip m) in
    let word = word_of_small b bits entry (turned flip (tile_width p.registers.mode b) (8 * m)) py small in
    let scroll : column_scroll p layer c ≡ own = scroll_is p b layer c own hb ho hf in
    let row : column_row p layer y c ≡ py = ap (λ (s : Scroll). y + 1 + s.down) scroll ∙ sym hp in
    ap (λ w. value_of p.vram w bits (if flip then 7 - j else j)) (sym word)
    ∙ line_value p b bits entry m odd j py hj hh
    ∙ rw (hb, hd, row) refl

-- a pixel of a row, from what was taken of its columns
pub small_pixel :
    (p : Picture) (b : Background) (layer y odd k py bits : ℕ) (own : Scroll) (values words entries : List ℕ) →
    b ≡ background_of p.registers layer → own ≡ own_scroll b → bits ≡ depth_of p.registers.mode layer → b.large ≡ false →
    is_hires p.registers.mode ≡ false → has_offsets p.registers.mode ≡ false → py ≡ y + 1 + own.down →
    slice_index entries (k / 8) ≡ column_entry p layer y (k / 8) →
    slice_index words (k / 8) ≡ half_word b bits (slice_index entries (k / 8)) 0 py →
    slice_index values k ≡ value_of p.vram (slice_index words (k / 8)) bits
    (if slice_index entries (k / 8) / 16384 % 2 == 1 then 7 - k % 8 else k % 8) →
    slice_index values k ≡ column_value p layer y odd (k / 8) (k % 8)
small_pixel p b layer y odd k py bits own values words entries hb ho hd hl hh hf hp he hw hv =
    hv ∙ rw (hw, he) (small_value p b layer y odd (k / 8) (k % 8) py bits own (omega arith) hb ho hd hl hh hf hp)

-- the two halves of an entry's attributes
number_small :
    (mode layer depth palette : ℕ) → layer ≤ 4 → palette < 8 → number_of mode layer depth palette 0 < 128
unfolding number_of
number_small mode layer depth palette hl hp = grind arith

priority_of :
    (mode layer depth entry : ℕ) → layer ≤ 4 → attribute_of mode layer depth entry / 128 ≡ entry / 8192 % 2
unfolding attribute_of
priority_of mode layer depth entry hl =
    let small = number_small mode layer depth (entry / 1024 % 8) hl (omega arith) in omega (arith, small)

first_of :
    (mode layer depth entry : ℕ) → layer ≤ 4 →
    attribute_of mode layer depth entry % 128 ≡ number_of mode layer depth (entry / 1024 % 8) 0
unfolding attribute_of
first_of mode layer depth entry hl =
    let small = number_small mode layer depth (entry / 1024 % 8) hl (omega arith) in omega (arith, small)

undirect : (depth : ℕ) → depth ≤ 4 → (depth == 8) ≡ false
undirect depth h = grind arith

small_base :
    (p : Picture) (layer y low high c mode bits : ℕ) → layer ≤ 4 → bits ≤ 4 → bits ≡ depth_of p.registers.mode layer →
    (if attribute_of mode layer bits (column_entry p layer y c) / 128 == 1 then high else low) ≡ column_base p layer y low high c
unfolding column_base
small_base p layer y low high c mode bits hl hb hd =
    let few : (depth_of p.registers.mode layer == 8) ≡ false = ap (λ n. n == 8) (sym hd) ∙ undirect bits hb in
    rw (priority_of mode layer bits (column_entry p layer y c) hl, few) (omega arith)

pub small_rank :
    (p : Picture) (layer y odd low high x from mode bits value attribute : ℕ) → odd < 2 → layer ≤ 4 → bits ≤ 4 →
    bits ≡ depth_of p.registers.mode layer → from ≡ (background_of p.registers layer).scroll_x % 8 →
    value ≡ column_value p layer y odd ((x + from) / 8) ((x + from) % 8) →
    attribute ≡ attribute_of mode layer bits (column_entry p layer y ((x + from) / 8)) →
    (let c = layer_dot_at p layer y x odd in
    (if value == 0 then 0 else (if attribute / 128 == 1 then high else low)) ≡ rank_of (base_of low high c) c)
small_rank p layer y odd low high x from mode bits value attribute ho hl hb hd hf hv ha =
    rw (hv, ha, small_base p layer y low high ((x + from) / 8) mode bits hl hb hd) (rw hf (column_rank p layer y x odd low high ho))

small_first :
    (p : Picture) (layer y c mode bits : ℕ) → layer ≤ 4 → mode ≡ p.registers.mode → bits ≡ depth_of p.registers.mode layer →
    attribute_of mode layer bits (column_entry p layer y c) % 128 ≡ column_first p layer y c
unfolding column_first
small_first p layer y c mode bits hl hm hd = first_of mode layer bits (column_entry p layer y c) hl ∙ rw (hd, hm) refl

pub small_number :
    (p : Picture) (layer y odd x from mode bits value attribute : ℕ) → odd < 2 → layer ≤ 4 → mode ≡ p.registers.mode →
    bits ≡ depth_of p.registers.mode layer → from ≡ (background_of p.registers layer).scroll_x % 8 →
    value ≡ column_value p layer y odd ((x + from) / 8) ((x + from) % 8) →
    attribute ≡ attribute_of mode layer bits (column_entry p layer y ((x + from) / 8)) →
    (attribute % 128 + value) % 256 ≡ (layer_dot_at p layer y x odd).number
small_number p layer y odd x from mode bits value attribute ho hl hm hd hf hv ha =
    rw (hv, ha, small_first p layer y ((x + from) / 8) mode bits hl hm hd) (rw hf (column_number p layer y x odd ho hl))
