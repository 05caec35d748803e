-- Ranked pixels behind masks, and ranked pixels of two planes.
use Rattle.std.proofs.Common.{◌≡◌, ℕ, ◌/◌, Bool, true, false, not, ◌&&◌, nat_lt, refl, ap, ◌∙◌, arith, if◌then◌else◌}
use Rattle.scanline_ops.specs.RankedPixels.{RankedPixel, nearest, seen, seen_key, is_nearer, chosen}
use Rattle.color_window.specs.Windows.{mask_of}
use Rattle.ppu_screens.specs.Screens.{standing}

-- a ranked pixel by its two numbers
pub ranked_pixel_is : (key number : ℕ) (ranked_pixel : RankedPixel) → key ≡ ranked_pixel.key → number ≡ ranked_pixel.number → record { key = key; number = number } ≡ ranked_pixel
ranked_pixel_is key number ranked_pixel k n =
    let first : RankedPixel = record { key = key; number = number } in
    let same_key : first ≡ record { key = ranked_pixel.key; number = number } = ap (λ (v : ℕ). let i : RankedPixel = record { key = v; number = number } in i) k in
    same_key ∙ ap (λ (v : ℕ). let i : RankedPixel = record { key = ranked_pixel.key; number = v } in i) n

pub ruleset ranked_pixels = ranked_pixel_is

-- a ranked pixel behind the mask of its windows
pub seen_standing : (inside : Bool) (ranked_pixel : RankedPixel) → seen (mask_of inside) ranked_pixel ≡ standing true true inside ranked_pixel
unfolding seen seen_key mask_of standing
seen_standing true ranked_pixel = refl
seen_standing false ranked_pixel = refl

pub lay_is : (inside : Bool) (front ranked_pixel : RankedPixel) (hidden key number : ℕ) → hidden ≡ mask_of inside →
    key ≡ (nearest front (seen hidden ranked_pixel)).key → number ≡ (nearest front (seen hidden ranked_pixel)).number →
    record { key = key; number = number } ≡ nearest front (standing true true inside ranked_pixel)
lay_is inside front ranked_pixel hidden key number h k n =
    ranked_pixel_is key number (nearest front (seen hidden ranked_pixel)) k n
    ∙ ap (λ (v : ℕ). nearest front (seen v ranked_pixel)) h
    ∙ ap (nearest front) (seen_standing inside ranked_pixel)

-- a ranked pixel that no window hides
pub open_standing : (inside : Bool) (ranked_pixel : RankedPixel) → ranked_pixel ≡ standing true false inside ranked_pixel
unfolding standing
open_standing inside ranked_pixel = refl

pub lay_open_is : (inside : Bool) (front ranked_pixel : RankedPixel) (key number : ℕ) →
    key ≡ (nearest front ranked_pixel).key → number ≡ (nearest front ranked_pixel).number →
    record { key = key; number = number } ≡ nearest front (standing true false inside ranked_pixel)
lay_open_is inside front ranked_pixel key number k n =
    ranked_pixel_is key number (nearest front ranked_pixel) k n ∙ ap (nearest front) (open_standing inside ranked_pixel)

not_below_zero : (n : ℕ) → nat_lt n 0 ≡ false
not_below_zero n = grind arith

-- a layer that isn't on leaves what stands in front
pub nearest_unseen : (masked inside : Bool) (front ranked_pixel : RankedPixel) → nearest front (standing false masked inside ranked_pixel) ≡ front
unfolding nearest standing is_nearer chosen
nearest_unseen masked inside front ranked_pixel = rw not_below_zero refl

-- a layer that has nothing at a pixel leaves what stands in front
either_zero : (b : Bool) (n : ℕ) → n ≡ 0 → (if b then n else 0) ≡ 0
either_zero true n h = h
either_zero false n h = refl

nearest_keyless : (front ranked_pixel : RankedPixel) → ranked_pixel.key ≡ 0 → nearest front ranked_pixel ≡ front
unfolding nearest is_nearer chosen
nearest_keyless front ranked_pixel h = rw h (rw (not_below_zero (front.key / 16)) refl)

pub nearest_empty : (masked inside : Bool) (front ranked_pixel : RankedPixel) → ranked_pixel.key ≡ 0 →
    nearest front (standing true masked inside ranked_pixel) ≡ front
unfolding standing
nearest_empty masked inside front ranked_pixel h =
    nearest_keyless front _ (either_zero (true && not (masked && inside)) ranked_pixel.key h)

-- a layer that is laid over a screen, or left out there
pub ruleset over = (lay_is, lay_open_is, nearest_unseen, nearest_empty)
