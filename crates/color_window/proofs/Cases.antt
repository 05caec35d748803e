-- The cases of two windows, masks read back as truths, and arithmetic that the colour window doesn't reach.
use Rattle.std.proofs.Common.{◌≡◌, ℕ, Bool, true, false, ◌==◌, not, ◌&&◌, ◌||◌, refl, ap, sym, ◌∙◌, if◌then◌else◌}
use Rattle.ppu_regs.specs.declared.registers.LayerWindows.{LayerWindows}
use Rattle.ppu_regs.specs.declared.registers.ColourMath.{ColourMath}
use Rattle.color_window.specs.Windows.{mask_of, truth_of}
use Rattle.ppu_regs.specs.declared.registers.WindowPart.{WindowPart}
use Rattle.ppu_regs.specs.declared.registers.WindowPart.TheVariants.{Never}
use Rattle.scanline_ops.specs.Colours.{colour_with}
use Rattle.color_window.specs.Mixing.{holds_at, mixed, is_mixed, fixed_colour}

-- which of the four cases a pixel is
pub case_is :
    (w : LayerWindows) (one two : Bool) →
    (if one then (if two then mask_of (truth_of w true true) else mask_of (truth_of w true false))
    else (if two then mask_of (truth_of w false true) else mask_of (truth_of w false false))) ≡
    mask_of (truth_of w one two)
case_is w true true = refl
case_is w true false = refl
case_is w false true = refl
case_is w false false = refl

pub ruleset cases = case_is

pub not-mask_of : (b : Bool) → not (mask_of b == 0) ≡ b
unfolding mask_of
not-mask_of true = refl
not-mask_of false = refl

pub ruleset masks = not-mask_of

-- where the colour window has no say, it doesn't matter whether the pixel lies in it
pub mixed_alike :
    (m : ColourMath) (one two : Bool) (main : ℕ) (named found : Bool) (sub : ℕ) →
    ((inside : Bool) → holds_at m.black inside ≡ false) → ((inside : Bool) → holds_at m.none inside ≡ false) →
    mixed m one main named found sub ≡ mixed m two main named found sub
unfolding mixed
mixed_alike m one two main named found sub black none = rw (black one, black two, none one, none two) refl

pub ruleset unwindowed = mixed_alike

-- a mark read back as a truth
marked_is : (b : Bool) (one two : ℕ) → (if not ((if b then 1 else 0) == 0) then one else two) ≡ (if b then one else two)
marked_is true one two = refl
marked_is false one two = refl

-- where main isn't black, a pixel is joined as it stands
open_is : (does halve black other_found subtract : Bool) (main other : ℕ) → black ≡ false →
    (if does then colour_with subtract (halve && other_found) main other else main)
    ≡ (if does then colour_with subtract (halve && not black && other_found) (if black then 0 else main) other
    else (if black then 0 else main))
open_is does true black other_found subtract main other h =
    sym (ap (λ (b : Bool). if does then colour_with subtract (true && not b && other_found) (if b then 0 else main) other
    else (if b then 0 else main)) h)
open_is does false black other_found subtract main other h =
    sym (ap (λ (b : Bool). if does then colour_with subtract (false && not b && other_found) (if b then 0 else main) other
    else (if b then 0 else main)) h)

-- where main is black nowhere, a marked pixel is joined with the other operand, and each other stays
pub mixed_marked :
    (m : ColourMath) (inside named found : Bool) (marked main sub : ℕ) → m.black ≡ Never →
    marked ≡ (if is_mixed m inside named then 1 else 0) →
    (if not (marked == 0)
    then colour_with m.subtract (m.halve && (not m.sub_screen || found)) main (if m.sub_screen && found then sub else fixed_colour m)
    else main)
    ≡ mixed m inside main named found sub
unfolding mixed is_mixed holds_at
mixed_marked m inside named found marked main sub black is =
    ap (λ (n : ℕ). if not (n == 0)
    then colour_with m.subtract (m.halve && (not m.sub_screen || found)) main (if m.sub_screen && found then sub else fixed_colour m)
    else main) is
    ∙ marked_is (named && not (holds_at m.none inside)) _ _
    ∙ open_is (named && not (holds_at m.none inside)) m.halve (holds_at m.black inside) (not m.sub_screen || found) m.subtract main
    (if m.sub_screen && found then sub else fixed_colour m) (ap (λ (part : WindowPart). holds_at part inside) black)

pub ruleset marked = mixed_marked
