-- Painted layers as ranked pixels.
use Rattle.std.proofs.Common.{◌≡◌, ◌≢◌, ℕ, zero, suc, ◌+◌, ◌*◌, ◌/◌, ◌<◌, ◌≤◌, ◌==◌, ◌&&◌, not, nat_lt, Bool, true, false, List, [], ◌∷◌, length, get_or, refl, sym, ap, ◌∙◌, if◌then◌else◌, ⊎_elim, arith}
use Rattle.std.proofs.lemmas.Bool.{le-ltb, eqb-true}
use Rattle.std.proofs.lemmas.List.{nil_from_length}
use Rattle.std.proofs.lemmas.Bool.Decides.{eqb_tells}
use Rattle.ppu_regs.specs.declared.dots.LayerDot.{LayerDot}
use Rattle.ppu_regs.specs.Picture.{Picture, screens_of}
use Rattle.ppu_regs.specs.Dots.{rank_of}
use Rattle.ppu_regs.specs.Reads.{bit_of}
use Rattle.ppu_tiles.specs.Modes.{is_hires}
use Rattle.ppu_tiles.specs.Columns.{base_of}
use Rattle.ppu_tiles.specs.Backgrounds.{background_layer_dot, layer_dot_at, layer_dot_of}
use Rattle.ppu_mode7.specs.Rotated.{rotated_layer_dot}
use Rattle.ppu_mode7.specs.Rotated as rotated
use Rattle.ppu_objects.specs.Slivers.{nothing, drawn_slivers, object_layer_dot}
use Rattle.ppu_objects.specs.declared.slivers.Sliver.{Sliver}
use Rattle.ppu_objects.specs.Ranks.{object_rank, rank_byte, IsOfObjects}
use Rattle.scanline_ops.specs.RankedPixels.{RankedPixel, nearest, is_nearer, chosen}
use Rattle.ppu_screens.specs.Order.{layer_rank, rank_base}
use Rattle.ppu_screens.specs.Screens.{standing, on_main, on_sub}
use Rattle.ppu_screens.proofs.FrontLemmas.{ranked_pixel_is, nearest_unseen}
use Rattle.ppu_line.specs.Line.{ranked_pixel_of, plane_layer_dot, any_layer_dot, has_background, main_pixel, sub_pixel}

either_zero : (b : Bool) (n : ℕ) → n ≡ 0 → (if b then n else 0) ≡ 0
either_zero true n h = h
either_zero false n h = refl

-- one of two bases is that of the priority
base_is : (rank : ℕ → ℕ) (named : Bool) (priority : ℕ) → priority < 2 →
    (if priority == 1 then rank_base (rank 1) named else rank_base (rank 0) named) ≡ rank_base (rank priority) (named && true)
base_is rank true zero h = refl
base_is rank false zero h = refl
base_is rank true (suc zero) h = refl
base_is rank false (suc zero) h = refl
base_is rank named (suc (suc n)) h = absurd (omega arith)

-- a background's two bytes at a pixel are its ranked pixel
pub painted_pixel : (p : Picture) (layer : ℕ) (c : LayerDot) (key number low high : ℕ) → c.priority < 2 → c.math ≡ true →
    low ≡ rank_base (layer_rank p.registers layer 0) (screens_of p.registers layer).arithmetic →
    high ≡ rank_base (layer_rank p.registers layer 1) (screens_of p.registers layer).arithmetic →
    key ≡ rank_of (if c.priority == 1 then high else low) c → number ≡ c.number → record { key = key; number = number } ≡ ranked_pixel_of p layer c
unfolding ranked_pixel_of
painted_pixel p layer c key number low high priority math l h k n =
    let named : Bool = (screens_of p.registers layer).arithmetic in
    let same : (if c.priority == 1 then high else low) ≡ rank_base (layer_rank p.registers layer c.priority) (named && c.math) =
    ap (λ (v : ℕ). if c.priority == 1 then v else low) h
    ∙ ap (λ (v : ℕ). if c.priority == 1 then rank_base (layer_rank p.registers layer 1) named else v) l
    ∙ base_is (layer_rank p.registers layer) named c.priority priority
    ∙ ap (λ (b : Bool). rank_base (layer_rank p.registers layer c.priority) (named && b)) (sym math) in
    ranked_pixel_is key number _ (k ∙ ap (λ (v : ℕ). rank_of v c) same) n

-- what is always so of a background's layer dot
pub tiles_math : (p : Picture) (layer row e : ℕ) → (background_layer_dot p layer row e).math ≡ true
unfolding background_layer_dot layer_dot_at layer_dot_of
tiles_math p layer row e = refl

pub tiles_priority : (p : Picture) (layer row e : ℕ) → (background_layer_dot p layer row e).priority < 2
unfolding background_layer_dot layer_dot_at layer_dot_of
tiles_priority p layer row e = omega arith

either_math : (b : Bool) (c d : LayerDot) → c.math ≡ true → d.math ≡ true → (if b then c else d).math ≡ true
either_math true c d hc hd = hc
either_math false c d hc hd = hd

either_priority : (b : Bool) (c d : LayerDot) → c.priority < 2 → d.priority < 2 → (if b then c else d).priority < 2
either_priority true c d hc hd = hc
either_priority false c d hc hd = hd

pub rotated_math : (p : Picture) (layer row x : ℕ) → (rotated_layer_dot p layer row x).math ≡ true
unfolding rotated_layer_dot rotated.layer_dot_of
rotated_math p layer row x = either_math (layer == 2) _ _ refl refl

pub rotated_priority : (p : Picture) (layer row x : ℕ) → (rotated_layer_dot p layer row x).priority < 2
unfolding rotated_layer_dot rotated.layer_dot_of
rotated_priority p layer row x = either_priority (layer == 2) _ _ (omega arith) (omega arith)

-- a background's plane by the mode
pub plane_tiles : (p : Picture) (layer row e : ℕ) → (p.registers.mode == 7) ≡ false → plane_layer_dot p layer row e ≡ background_layer_dot p layer row e
unfolding plane_layer_dot
plane_tiles p layer row e h = rw h refl

pub plane_rotated : (p : Picture) (layer row e x : ℕ) → (p.registers.mode == 7) ≡ true → e / 2 ≡ x → plane_layer_dot p layer row e ≡ rotated_layer_dot p layer row x
unfolding plane_layer_dot
plane_rotated p layer row e x h place = rw h (ap (rotated_layer_dot p layer row) place)

-- the pixel of a dot
pub half_of : (x : ℕ) (odd : Bool) → (2 * x + bit_of odd) / 2 ≡ x
half_of x true = omega arith
half_of x false = omega arith

-- outside of modes 5 and 6 both dots of a pixel are alike
pub tiles_pair : (p : Picture) (layer row x : ℕ) → is_hires p.registers.mode ≡ false →
    background_layer_dot p layer row (2 * x + 1) ≡ background_layer_dot p layer row (2 * x)
unfolding background_layer_dot layer_dot_at
tiles_pair p layer row x h =
    let even : 2 * x / 2 ≡ x = omega arith in
    let odd : (2 * x + 1) / 2 ≡ x = omega arith in
    rw h (rw even (rw odd refl))

pair_by : (b : Bool) (one two three four : LayerDot) → one ≡ two → three ≡ four → (if b then one else three) ≡ (if b then two else four)
pair_by true one two three four e f = e
pair_by false one two three four e f = f

pub plane_pair : (p : Picture) (layer row x : ℕ) → is_hires p.registers.mode ≡ false →
    plane_layer_dot p layer row (2 * x + 1) ≡ plane_layer_dot p layer row (2 * x)
unfolding plane_layer_dot
plane_pair p layer row x h =
    let halves : (2 * x + 1) / 2 ≡ 2 * x / 2 = omega arith in
    pair_by (p.registers.mode == 7) _ _ _ _ (ap (rotated_layer_dot p layer row) halves) (tiles_pair p layer row x h)

not_five : (layer : ℕ) → layer ≤ 4 → (layer == 5) ≡ false
not_five layer h =
    ⊎_elim
    (λ (t : ((layer == 5) ≡ true) × (layer ≡ 5)). absurd (omega (arith, t.1)))
    (λ (f : ((layer == 5) ≡ false) × (layer ≢ 5)). f.0)
    (eqb_tells layer 5)

-- a background's layer dot, where the mode has it, and where not
pub layer_plane : (p : Picture) (layer row e : ℕ) → layer ≤ 4 → has_background p.registers.mode layer ≡ true →
    any_layer_dot p layer row e ≡ plane_layer_dot p layer row e
unfolding any_layer_dot
layer_plane p layer row e h has = rw (not_five layer h) (rw has refl)

-- two painted bytes are the layer's ranked pixel at a dot, of tiles and of mode 7
pub tiles_pixel : (p : Picture) (layer row e key number low high : ℕ) → layer ≤ 4 →
    has_background p.registers.mode layer ≡ true → (p.registers.mode == 7) ≡ false →
    low ≡ rank_base (layer_rank p.registers layer 0) (screens_of p.registers layer).arithmetic →
    high ≡ rank_base (layer_rank p.registers layer 1) (screens_of p.registers layer).arithmetic →
    (let c = background_layer_dot p layer row e in
    key ≡ rank_of (base_of low high c) c → number ≡ c.number →
    record { key = key; number = number } ≡ ranked_pixel_of p layer (any_layer_dot p layer row e))
tiles_pixel p layer row e key number low high last has mode hl hh hk hn =
    painted_pixel p layer (background_layer_dot p layer row e) key number low high (tiles_priority p layer row e)
    (tiles_math p layer row e) hl hh hk hn
    ∙ ap (ranked_pixel_of p layer) (sym (layer_plane p layer row e last has ∙ plane_tiles p layer row e mode))

pub rotated_pixel : (p : Picture) (layer row e x key number low high : ℕ) → layer ≤ 4 → e / 2 ≡ x →
    has_background p.registers.mode layer ≡ true → (p.registers.mode == 7) ≡ true →
    low ≡ rank_base (layer_rank p.registers layer 0) (screens_of p.registers layer).arithmetic →
    high ≡ rank_base (layer_rank p.registers layer 1) (screens_of p.registers layer).arithmetic →
    (let c = rotated_layer_dot p layer row x in
    key ≡ rank_of (if c.priority == 1 then high else low) c → number ≡ c.number →
    record { key = key; number = number } ≡ ranked_pixel_of p layer (any_layer_dot p layer row e))
rotated_pixel p layer row e x key number low high last half has mode hl hh hk hn =
    painted_pixel p layer (rotated_layer_dot p layer row x) key number low high (rotated_priority p layer row x)
    (rotated_math p layer row x) hl hh hk hn
    ∙ ap (ranked_pixel_of p layer) (sym (layer_plane p layer row e last has ∙ plane_rotated p layer row e x mode half))

pub any_pair : (p : Picture) (layer row x : ℕ) → layer ≤ 4 → has_background p.registers.mode layer ≡ true →
    is_hires p.registers.mode ≡ false → any_layer_dot p layer row (2 * x + 1) ≡ any_layer_dot p layer row (2 * x)
any_pair p layer row x last has alike =
    layer_plane p layer row (2 * x + 1) last has ∙ plane_pair p layer row x alike
    ∙ sym (layer_plane p layer row (2 * x) last has)

layer_nothing : (p : Picture) (layer row e : ℕ) → layer ≤ 4 → has_background p.registers.mode layer ≡ false →
    any_layer_dot p layer row e ≡ nothing
unfolding any_layer_dot
layer_nothing p layer row e h has = rw (not_five layer h) (rw has refl)

pub layer_objects : (p : Picture) (row e x : ℕ) → e / 2 ≡ x → any_layer_dot p 5 row e ≡ object_layer_dot p row x
unfolding any_layer_dot
layer_objects p row e x h = ap (object_layer_dot p row) h

-- nothing leaves what stands in front
not_below_zero : (n : ℕ) → nat_lt n 0 ≡ false
not_below_zero n = le-ltb n 0 (omega arith)

nearest_keyless : (front ranked_pixel : RankedPixel) → ranked_pixel.key ≡ 0 → nearest front ranked_pixel ≡ front
unfolding nearest is_nearer chosen
nearest_keyless front ranked_pixel h = rw h (rw (not_below_zero (front.key / 16)) refl)

standing_keyless : (on masked inside : Bool) (ranked_pixel : RankedPixel) → ranked_pixel.key ≡ 0 → (standing on masked inside ranked_pixel).key ≡ 0
unfolding standing
standing_keyless on masked inside ranked_pixel h = either_zero (on && not (masked && inside)) ranked_pixel.key h

pixel_of_nothing : (p : Picture) (layer : ℕ) → (ranked_pixel_of p layer nothing).key ≡ 0
unfolding ranked_pixel_of rank_of
pixel_of_nothing p layer = refl

pub absent_main : (front : RankedPixel) (p : Picture) (row x layer : ℕ) → layer ≤ 4 → has_background p.registers.mode layer ≡ false →
    nearest front (main_pixel p row x layer) ≡ front
unfolding main_pixel on_main
absent_main front p row x layer h has =
    nearest_keyless front _ (standing_keyless _ _ _ _ (rw (layer_nothing p layer row (2 * x + 1) h has) (pixel_of_nothing p layer)))

pub absent_sub : (front : RankedPixel) (p : Picture) (row x layer : ℕ) → layer ≤ 4 → has_background p.registers.mode layer ≡ false →
    nearest front (sub_pixel p row x layer) ≡ front
unfolding sub_pixel on_sub
absent_sub front p row x layer h has =
    nearest_keyless front _ (standing_keyless _ _ _ _ (rw (layer_nothing p layer row (2 * x) h has) (pixel_of_nothing p layer)))

pub ruleset absent = (absent_main, absent_sub)

pub unshown_main : (front : RankedPixel) (p : Picture) (row x layer : ℕ) → (screens_of p.registers layer).main ≡ false →
    nearest front (main_pixel p row x layer) ≡ front
unfolding main_pixel on_main
unshown_main front p row x layer h = rw h (nearest_unseen _ _ front _)

pub unshown_sub : (front : RankedPixel) (p : Picture) (row x layer : ℕ) → (screens_of p.registers layer).sub ≡ false →
    nearest front (sub_pixel p row x layer) ≡ front
unfolding sub_pixel on_sub
unshown_sub front p row x layer h = rw h (nearest_unseen _ _ front _)

pub ruleset unshown = (unshown_main, unshown_sub)

-- an empty list of slivers
pub empty_drawn : (slivers drawn : List Sliver) (b : Bool) → slivers ≡ drawn → b ≡ (length slivers == 0) → b ≡ true → drawn ≡ []
empty_drawn slivers drawn b same is h = sym same ∙ nil_from_length slivers (eqb-true (length slivers) 0 (sym is ∙ h))

pub ruleset empty = empty_drawn

-- where no sliver is drawn the objects have nothing
sliverless : (p : Picture) (row x : ℕ) → drawn_slivers p row ≡ [] → object_layer_dot p row x ≡ nothing
unfolding object_layer_dot
sliverless p row x none = rw none refl

pub objectless_main : (front : RankedPixel) (p : Picture) (row x : ℕ) → drawn_slivers p row ≡ [] →
    nearest front (main_pixel p row x 5) ≡ front
unfolding main_pixel on_main
objectless_main front p row x none =
    let half : (2 * x + 1) / 2 ≡ x = omega arith in
    nearest_keyless front _
    (standing_keyless _ _ _ _ (rw (layer_objects p row (2 * x + 1) x half) (rw (sliverless p row x none) (pixel_of_nothing p 5))))

pub objectless_sub : (front : RankedPixel) (p : Picture) (row x : ℕ) → drawn_slivers p row ≡ [] →
    nearest front (sub_pixel p row x 5) ≡ front
unfolding sub_pixel on_sub
objectless_sub front p row x none =
    let half : 2 * x / 2 ≡ x = omega arith in
    nearest_keyless front _
    (standing_keyless _ _ _ _ (rw (layer_objects p row (2 * x) x half) (rw (sliverless p row x none) (pixel_of_nothing p 5))))

pub ruleset objectless = (objectless_main, objectless_sub)

-- the bases of the objects' priorities
pub bases_small : (a b c d : ℕ) → a ≤ 240 → b ≤ 240 → c ≤ 240 → d ≤ 240 → (k : ℕ) → get_or (a ∷ b ∷ c ∷ d ∷ []) k 0 ≤ 240
bases_small a b c d ha hb hc hd zero = ha
bases_small a b c d ha hb hc hd (suc zero) = hb
bases_small a b c d ha hb hc hd (suc (suc zero)) = hc
bases_small a b c d ha hb hc hd (suc (suc (suc zero))) = hd
bases_small a b c d ha hb hc hd (suc (suc (suc (suc k)))) = omega arith

base_at : (rank : ℕ → ℕ) (a b c d priority : ℕ) → a ≡ rank_base (rank 0) false → b ≡ rank_base (rank 1) false →
    c ≡ rank_base (rank 2) false → d ≡ rank_base (rank 3) false → priority < 4 →
    get_or (a ∷ b ∷ c ∷ d ∷ []) priority 0 ≡ 16 * rank priority
unfolding rank_base
base_at rank a b c d zero ea eb ec ed h = omega (arith, ea)
base_at rank a b c d (suc zero) ea eb ec ed h = omega (arith, eb)
base_at rank a b c d (suc (suc zero)) ea eb ec ed h = omega (arith, ec)
base_at rank a b c d (suc (suc (suc zero))) ea eb ec ed h = omega (arith, ed)
base_at rank a b c d (suc (suc (suc (suc n)))) ea eb ec ed h = absurd (omega arith)

on_same : (b : Bool) (u v : ℕ) → u ≡ v → (if b then u else 0) ≡ (if b then v else 0)
on_same b u v h = ap (λ (w : ℕ). if b then w else 0) h

bit_same : (one other math : Bool) (bit : ℕ) → one ≡ other → (if one && math then bit else 0) ≡ (if other && math then bit else 0)
bit_same one other math bit h = ap (λ (t : Bool). if t && math then bit else 0) h

-- an object's two bytes at a pixel are its ranked pixel
pub object_pixel : (p : Picture) (o : LayerDot) (key number a b c d : ℕ) (named : Bool) → IsOfObjects o →
    a ≡ rank_base (layer_rank p.registers 5 0) false → b ≡ rank_base (layer_rank p.registers 5 1) false →
    c ≡ rank_base (layer_rank p.registers 5 2) false → d ≡ rank_base (layer_rank p.registers 5 3) false →
    named ≡ (screens_of p.registers 5).arithmetic → key ≡ object_rank (a ∷ b ∷ c ∷ d ∷ []) named o → number ≡ o.number →
    record { key = key; number = number } ≡ ranked_pixel_of p 5 o
unfolding ranked_pixel_of object_rank rank_byte rank_of rank_base
object_pixel p o key number a b c d named of ea eb ec ed en k n =
    let at : get_or (a ∷ b ∷ c ∷ d ∷ []) o.priority 0 ≡ 16 * layer_rank p.registers 5 o.priority =
    base_at (layer_rank p.registers 5) a b c d o.priority ea eb ec ed of.priority in
    let bit = bit_same named (screens_of p.registers 5).arithmetic o.math 8 en in
    ranked_pixel_is key number _ (k ∙ on_same o.on _ _ (omega (arith, at, bit, of.palette))) n
