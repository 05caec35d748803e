-- The pixels of a sliver, and where they lie in a row that begins eight places further on.
use Rattle.std.proofs.Common.{◌≡◌, ℕ, zero, suc, ◌+◌, ◌-◌, ◌*◌, ◌%◌, ◌<◌, ◌≤◌, ◌==◌, ◌⊎◌, not, Bool, true, false, nat_lt, nat_le, List, slice_index, slice_index_or, replicate, if◌then◌else◌, inl, inr, refl, sym, ap, subst, ◌∙◌, arith}
use Rattle.std.proofs.lemmas.Bool.{cases_lt, le-ltb, lt-ltb, lt-leb, le-leb, ltb-true, ltb-false, or_cases, or_parts, and_right}
use Rattle.std.proofs.lemmas.List.{get_or_past, get_or-replicate, length-replicate}
use Rattle.ppu_regs.specs.declared.dots.LayerDot.{LayerDot}
use Rattle.ppu_regs.specs.declared.registers.Registers.{Registers}
use Rattle.ppu_regs.specs.Picture.{Picture}
use Rattle.tile_cache.specs.Bitplanes.{pixel_of, eight}
use Rattle.ppu_objects.specs.declared.objects.Object.{Object}
use Rattle.ppu_objects.specs.declared.slivers.Sliver.{Sliver}
use Rattle.ppu_objects.specs.Covering.{covers, no_sliver, sliver_pixel}
use Rattle.ppu_objects.specs.Slivers.{value_of, pixel_value, sliver_word, sliver_left, is_on_screen, offset_in, sliver_layer_dot, object_dot, nothing}
use Rattle.ppu_objects.specs.Ranks.{object_rank, rank_byte}

-- a value of two words is that of their pixels
value_is : (first second k : ℕ) → pixel_of first k + 4 * pixel_of second k ≡ value_of first second k
unfolding pixel_of value_of
value_is first second k = omega arith

eight_ext : (f g : ℕ → ℕ) → ((k : ℕ) → k < 8 → f k ≡ g k) → eight f ≡ eight g
eight_ext f g same =
    let e0 = same 0 (omega arith) in
    let e1 = same 1 (omega arith) in
    let e2 = same 2 (omega arith) in
    let e3 = same 3 (omega arith) in
    let e4 = same 4 (omega arith) in
    let e5 = same 5 (omega arith) in
    let e6 = same 6 (omega arith) in
    let e7 = same 7 (omega arith) in
    cc

pub line_is :
    (vram : List ℕ) (r : Registers) (o : Object) (column row first second : ℕ) →
    first ≡ slice_index vram (sliver_word r o column row) → second ≡ slice_index vram ((sliver_word r o column row + 8) % 32768) →
    eight (λ k. pixel_of first (if o.flip_x then 7 - k else k) + 4 * pixel_of second (if o.flip_x then 7 - k else k)) ≡
    eight (pixel_value vram r o column row)
unfolding pixel_value
line_is vram r o column row first second h1 h2 =
    eight_ext (λ k. pixel_of first (if o.flip_x then 7 - k else k) + 4 * pixel_of second (if o.flip_x then 7 - k else k))
    (pixel_value vram r o column row)
    (λ k h. rw (h1, h2) (value_is (slice_index vram (sliver_word r o column row))
    (slice_index vram ((sliver_word r o column row + 8) % 32768)) (if o.flip_x then 7 - k else k)))

value_small : (first second k : ℕ) → value_of first second k < 16
unfolding value_of
value_small first second k = omega arith

pub pixel_small : (p : Picture) (row : ℕ) (sliver : Sliver) (k : ℕ) → sliver_pixel p row sliver k < 16
unfolding sliver_pixel pixel_value
pixel_small p row sliver k = value_small _ _ _

-- an element of eight
pub eight_at : (f : ℕ → ℕ) (k : ℕ) → k < 8 → slice_index (eight f) k ≡ f k
eight_at f zero h = refl
eight_at f (suc zero) h = refl
eight_at f (suc (suc zero)) h = refl
eight_at f (suc (suc (suc zero))) h = refl
eight_at f (suc (suc (suc (suc zero)))) h = refl
eight_at f (suc (suc (suc (suc (suc zero))))) h = refl
eight_at f (suc (suc (suc (suc (suc (suc zero)))))) h = refl
eight_at f (suc (suc (suc (suc (suc (suc (suc zero))))))) h = refl
eight_at f (suc (suc (suc (suc (suc (suc (suc (suc k)))))))) h = absurd (omega arith)

-- where a sliver on the screen lies
side_of : (left : ℕ) → is_on_screen left ≡ true → (left < 256) ⊎ (504 < left)
unfolding is_on_screen
side_of left h = elim (or_cases (nat_lt left 256) (nat_lt 504 left) h) [
  | inl small ↦ inl (ltb-true left 256 small)
  | inr large ↦ inr (ltb-true 504 left large)
]

not_on : (left : ℕ) → is_on_screen left ≡ false → (256 ≤ left) × (left ≤ 504)
unfolding is_on_screen
not_on left h =
    let both = or_parts (nat_lt left 256) (nat_lt 504 left) h in
    (ltb-false left 256 both.0, ltb-false 504 left both.1)

pub room_for : (left at : ℕ) → left < 512 → is_on_screen left ≡ true → at ≡ (left + 8) % 512 → at + 8 ≤ 272
room_for left at small on is = elim (side_of left on) [
  | inl l ↦ omega (arith, is)
  | inr r ↦ omega (arith, is)
]

-- the places of a sliver's pixels
in_sliver :
    (left x at : ℕ) → left < 512 → x < 256 → is_on_screen left ≡ true → at ≡ (left + 8) % 512 → offset_in left x < 8 →
    (at ≤ x + 8) × ((x + 8 < at + 8) × (x + 8 - at ≡ offset_in left x))
unfolding offset_in
in_sliver left x at small hx on is inside = elim (side_of left on) [
  | inl l ↦ (omega (arith, is), (omega (arith, is), omega (arith, is)))
  | inr r ↦ (omega (arith, is), (omega (arith, is), omega (arith, is)))
]

out_of_sliver :
    (left x at : ℕ) → left < 512 → x < 256 → is_on_screen left ≡ true → at ≡ (left + 8) % 512 → 8 ≤ offset_in left x →
    (x + 8 < at) ⊎ (at + 8 ≤ x + 8)
unfolding offset_in
out_of_sliver left x at small hx on is outside = elim (cases_lt (x + 8) at) [
  | inl before ↦ inl before
  | inr from ↦ inr (elim (side_of left on) [ inl l ↦ omega (arith, is) | inr r ↦ omega (arith, is) ])
]

-- whether a pixel is covered
covers_in :
    (lines : List ℕ) (from at x off : ℕ) → at ≤ x → x < at + 8 → x - at ≡ off →
    covers lines from at x ≡ not (slice_index lines (from + off) == 0)
unfolding covers
covers_in lines from at x off lower upper is = rw (le-leb at x lower, lt-ltb x (at + 8) upper, is) refl

covers_out : (lines : List ℕ) (from at x : ℕ) → (x < at) ⊎ (at + 8 ≤ x) → covers lines from at x ≡ false
unfolding covers
covers_out lines from at x h = elim h [
  | inl before ↦ rw (lt-leb at x before) refl
  | inr past ↦ rw (le-ltb x (at + 8) past) (and_right (nat_le at x) false refl)
]

-- what a sliver has there
layer_dot_in :
    (p : Picture) (row : ℕ) (sliver : Sliver) (x off : ℕ) → offset_in (sliver_left sliver.object sliver.column) x ≡ off → off < 8 →
    sliver_layer_dot p row sliver x ≡ object_dot sliver.object (sliver_pixel p row sliver off)
unfolding sliver_layer_dot sliver_pixel
layer_dot_in p row sliver x off is inside = rw (is, lt-ltb off 8 inside) refl

layer_dot_out :
    (p : Picture) (row : ℕ) (sliver : Sliver) (x : ℕ) → 8 ≤ offset_in (sliver_left sliver.object sliver.column) x →
    sliver_layer_dot p row sliver x ≡ nothing
unfolding sliver_layer_dot
layer_dot_out p row sliver x outside = rw (le-ltb (offset_in (sliver_left sliver.object sliver.column) x) 8 outside) refl

rank_by_value :
    (none : Bool) (rank rank_of old : ℕ) → rank ≡ rank_of →
    (if not none then rank else old) ≡ (if not none then (if not none then rank_of else 0) else old)
rank_by_value true rank rank_of old h = refl
rank_by_value false rank rank_of old h = h

number_by_value :
    (none : Bool) (number number_of old : ℕ) → number ≡ number_of →
    (if not none then number else old) ≡ (if not none then number_of else old)
number_by_value true number number_of old h = refl
number_by_value false number number_of old h = h

pub rank_shown :
    (p : Picture) (row : ℕ) (sliver : Sliver) (lines bases : List ℕ) (named : Bool) (from at x left rank old : ℕ) →
    left ≡ sliver_left sliver.object sliver.column → left < 512 → x < 256 → is_on_screen left ≡ true → at ≡ (left + 8) % 512 →
    ((k : ℕ) → k < 8 → slice_index lines (from + k) ≡ sliver_pixel p row sliver k) →
    rank ≡ rank_byte bases named (sliver.object.priority % 4) (nat_le 4 sliver.object.palette) →
    (if covers lines from at (x + 8) then rank else old) ≡
    (if (sliver_layer_dot p row sliver x).on then object_rank bases named (sliver_layer_dot p row sliver x) else old)
unfolding object_rank object_dot
rank_shown p row sliver lines bases named from at x left rank old is small hx on place line rank_is = elim (cases_lt (offset_in left x) 8) [
  | inl inside ↦ (
      let off : ℕ = offset_in left x in
      let there = in_sliver left x at small hx on place inside in
      let covered = covers_in lines from at (x + 8) off there.0 there.1.0 there.1.1 in
      let layer_dot = layer_dot_in p row sliver x off (ap (λ n. offset_in n x) (sym is)) inside in
      rw (covered, line off inside, layer_dot)
      (rank_by_value (sliver_pixel p row sliver off == 0) rank (rank_byte bases named (sliver.object.priority % 4) (nat_le 4 sliver.object.palette)) old rank_is)
      )
  | inr outside ↦ (
      let covered = covers_out lines from at (x + 8) (out_of_sliver left x at small hx on place outside) in
      let layer_dot = layer_dot_out p row sliver x (subst (λ n. 8 ≤ offset_in n x) is outside) in
      rw (covered, layer_dot) refl
      )
]

pub number_shown :
    (p : Picture) (row : ℕ) (sliver : Sliver) (lines : List ℕ) (from at x left colours old : ℕ) →
    left ≡ sliver_left sliver.object sliver.column → left < 512 → x < 256 → is_on_screen left ≡ true → at ≡ (left + 8) % 512 →
    ((k : ℕ) → k < 8 → slice_index lines (from + k) ≡ sliver_pixel p row sliver k) →
    colours ≡ 128 + 16 * (sliver.object.palette % 8) →
    (if covers lines from at (x + 8) then (colours + slice_index lines (from + (x + 8 - at))) % 256 else old) ≡
    (if (sliver_layer_dot p row sliver x).on then (sliver_layer_dot p row sliver x).number else old)
unfolding object_dot
number_shown p row sliver lines from at x left colours old is small hx on place line colours_is = elim (cases_lt (offset_in left x) 8) [
  | inl inside ↦ (
      let off : ℕ = offset_in left x in
      let there = in_sliver left x at small hx on place inside in
      let covered = covers_in lines from at (x + 8) off there.0 there.1.0 there.1.1 in
      let layer_dot = layer_dot_in p row sliver x off (ap (λ n. offset_in n x) (sym is)) inside in
      let value = pixel_small p row sliver off in
      rw (covered, there.1.1, line off inside, layer_dot)
      (number_by_value (sliver_pixel p row sliver off == 0) ((colours + sliver_pixel p row sliver off) % 256)
      (128 + 16 * (sliver.object.palette % 8) + sliver_pixel p row sliver off) old (omega (arith, value, colours_is)))
      )
  | inr outside ↦ (
      let covered = covers_out lines from at (x + 8) (out_of_sliver left x at small hx on place outside) in
      let layer_dot = layer_dot_out p row sliver x (subst (λ n. 8 ≤ offset_in n x) is outside) in
      rw (covered, layer_dot) refl
      )
]

-- a sliver off the screen has nothing in the row
far_off : (left x : ℕ) → x < 256 → is_on_screen left ≡ false → 8 ≤ offset_in left x
unfolding offset_in
far_off left x hx off = let sides = not_on left off in let a = sides.0 in let b = sides.1 in omega (arith, a, b)

pub unshown :
    (p : Picture) (row : ℕ) (sliver : Sliver) (x left : ℕ) → left ≡ sliver_left sliver.object sliver.column → x < 256 →
    is_on_screen left ≡ false → (sliver_layer_dot p row sliver x).on ≡ false
unshown p row sliver x left is hx off =
    ap (λ (c : LayerDot). c.on) (layer_dot_out p row sliver x (subst (λ n. 8 ≤ offset_in n x) is (far_off left x hx off)))

pub kept : (b : Bool) (new old : ℕ) → b ≡ false → old ≡ (if b then new else old)
kept b new old h = rw h refl

-- one more line
pub line_next :
    (p : Picture) (row : ℕ) (slivers : List Sliver) (lines line : List ℕ) (i j k : ℕ) (sliver : Sliver) → i ≡ j → k < 8 →
    line ≡ eight (pixel_value p.vram p.registers sliver.object sliver.column row) → sliver ≡ slice_index_or slivers i no_sliver →
    slice_index lines (8 * i + k) ≡ slice_index line k → slice_index lines (8 * j + k) ≡ sliver_pixel p row (slice_index_or slivers j no_sliver) k
unfolding sliver_pixel
line_next p row slivers lines line i j k sliver same hk is here put =
    ap (λ n. slice_index lines (8 * n + k)) (sym same) ∙ put ∙ ap (λ l. slice_index l k) is
    ∙ eight_at (pixel_value p.vram p.registers sliver.object sliver.column row) k hk
    ∙ ap (λ (q : Sliver). pixel_value p.vram p.registers q.object q.column row k) here
    ∙ ap (λ n. pixel_value p.vram p.registers (slice_index_or slivers n no_sliver).object (slice_index_or slivers n no_sliver).column row k) same

-- zeros
pub zero_of : (n i : ℕ) → slice_index (replicate n 0) i ≡ 0
zero_of n i = elim (cases_lt i n) [
  | inl h ↦ get_or-replicate n i 0 0 h
  | inr h ↦ get_or_past (replicate n 0) i 0 (rw length-replicate h)
]
