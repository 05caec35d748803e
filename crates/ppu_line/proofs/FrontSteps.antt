-- Five layers laid one after another.
use Rattle.std.proofs.Common.{◌≡◌, ℕ, refl, ap, sym, ◌∙◌}
use Rattle.scanline_ops.specs.RankedPixels.{RankedPixel, no_pixel, nearest}
use Rattle.ppu_regs.specs.Picture.{Picture}
use Rattle.ppu_screens.specs.Screens.{backdrop}
use Rattle.ppu_line.specs.Line.{front, main_front, sub_front, main_pixel, sub_pixel}

step : (ranked_pixels : ℕ → RankedPixel) (k : ℕ) (before laid done : RankedPixel) → before ≡ done → laid ≡ nearest before (ranked_pixels k) → laid ≡ nearest done (ranked_pixels k)
step ranked_pixels k before laid done b l = l ∙ ap (λ (i : RankedPixel). nearest i (ranked_pixels k)) b

pub front_five : (ranked_pixels : ℕ → RankedPixel) (behind zeroth first second third fourth fifth : RankedPixel) → zeroth ≡ behind →
    first ≡ nearest zeroth (ranked_pixels 1) → second ≡ nearest first (ranked_pixels 2) → third ≡ nearest second (ranked_pixels 3) →
    fourth ≡ nearest third (ranked_pixels 4) → fifth ≡ nearest fourth (ranked_pixels 5) → fifth ≡ front ranked_pixels behind 5
unfolding front
front_five ranked_pixels behind zeroth first second third fourth fifth z a b c d e =
    step ranked_pixels 5 _ _ _ (step ranked_pixels 4 _ _ _ (step ranked_pixels 3 _ _ _ (step ranked_pixels 2 _ _ _ (step ranked_pixels 1 _ _ _ z a) b) c) d) e

-- .. on the main and on the sub screen
pub main_five : (p : Picture) (row x : ℕ) (zeroth first second third fourth fifth : RankedPixel) →
    zeroth ≡ backdrop p.registers → first ≡ nearest zeroth (main_pixel p row x 1) →
    second ≡ nearest first (main_pixel p row x 2) → third ≡ nearest second (main_pixel p row x 3) →
    fourth ≡ nearest third (main_pixel p row x 4) → fifth ≡ nearest fourth (main_pixel p row x 5) →
    fifth ≡ main_front p row x
unfolding main_front
main_five p row x zeroth first second third fourth fifth z a b c d e =
    front_five (main_pixel p row x) (backdrop p.registers) zeroth first second third fourth fifth z a b c d e

pub sub_five : (p : Picture) (row x : ℕ) (zeroth first second third fourth fifth : RankedPixel) →
    zeroth ≡ no_pixel → first ≡ nearest zeroth (sub_pixel p row x 1) →
    second ≡ nearest first (sub_pixel p row x 2) → third ≡ nearest second (sub_pixel p row x 3) →
    fourth ≡ nearest third (sub_pixel p row x 4) → fifth ≡ nearest fourth (sub_pixel p row x 5) →
    fifth ≡ sub_front p row x
unfolding sub_front
sub_five p row x zeroth first second third fourth fifth z a b c d e =
    front_five (sub_pixel p row x) no_pixel zeroth first second third fourth fifth z a b c d e

-- five layers that have nothing
pub front_bare : (ranked_pixels : ℕ → RankedPixel) (behind : RankedPixel) → ((front : RankedPixel) → nearest front (ranked_pixels 1) ≡ front) →
    ((front : RankedPixel) → nearest front (ranked_pixels 2) ≡ front) → ((front : RankedPixel) → nearest front (ranked_pixels 3) ≡ front) →
    ((front : RankedPixel) → nearest front (ranked_pixels 4) ≡ front) → ((front : RankedPixel) → nearest front (ranked_pixels 5) ≡ front) →
    front ranked_pixels behind 5 ≡ behind
front_bare ranked_pixels behind a b c d e =
    sym (front_five ranked_pixels behind behind behind behind behind behind behind refl (sym (a behind)) (sym (b behind)) (sym (c behind))
    (sym (d behind)) (sym (e behind)))
