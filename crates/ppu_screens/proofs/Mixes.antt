-- Where nothing is mixed, and where the sub screen's colours don't count.
use Rattle.std.proofs.Common.{◌≡◌, ℕ, zero, suc, ◌<◌, Bool, true, false, ◌&&◌, ◌||◌, List, slice_index, refl, inl, inr, ap, sym, subst, ◌∙◌, arith, if◌then◌else◌}
use Rattle.std.proofs.lemmas.Bool.{cases_lt}
use Rattle.ppu_regs.specs.declared.registers.ColourMath.{ColourMath}
use Rattle.ppu_regs.specs.declared.registers.WindowPart.TheVariants.{Never}
use Rattle.color_window.specs.Mixing.{holds_at, mixed, is_mixed, fixed_colour}
use Rattle.color_window.specs.Windows.{is_inside}
use Rattle.scanline_ops.specs.RankedPixels.{RankedPixel, no_pixel, is_named, is_any_named, is_found}
use Rattle.scanline_ops.specs.Colours.{dimmed, pixel_colour}
use Rattle.ppu_regs.specs.Picture.{Picture}
use Rattle.ppu_screens.specs.Order.{layer_rank}
use Rattle.ppu_screens.specs.Screens.{backdrop, has_direct, front_pixel_colour, main_colour, is_halved, even_dot, odd_dot}

-- where main isn't black and no arithmetic is done, the colour is the one in front
unmarked : (b : Bool) → (let n : ℕ = if b then 1 else 0 in n) ≡ 0 → b ≡ false
unmarked true h = absurd (omega (arith, h))
unmarked false h = refl

plain_is :
    (m : ColourMath) (inside : Bool) (main : ℕ) (named found : Bool) (sub : ℕ) → m.black ≡ Never → is_mixed m inside named ≡ false →
    main ≡ mixed m inside main named found sub
unfolding mixed is_mixed holds_at
plain_is m inside main named found sub black none = rw (black, none) refl

pub unmixed_is :
    (m : ColourMath) (inside : Bool) (main : ℕ) (named found : Bool) (sub marked : ℕ) → m.black ≡ Never →
    marked ≡ (if is_mixed m inside named then 1 else 0) → marked ≡ 0 → main ≡ mixed m inside main named found sub
unmixed_is m inside main named found sub marked black is none =
    plain_is m inside main named found sub black (unmarked (is_mixed m inside named) (sym is ∙ none))

pub ruleset unmixed = unmixed_is

-- where none is named, each isn't
left_false : (a b : Bool) → (a || b) ≡ false → a ≡ false
left_false true b h = h
left_false false b h = refl

right_false : (a b : Bool) → (a || b) ≡ false → b ≡ false
right_false true true h = h
right_false true false h = refl
right_false false b h = h

pub none_named : (keys : List ℕ) (n x : ℕ) → x < n → is_any_named keys n ≡ false → is_named (slice_index keys x) ≡ false
unfolding is_any_named
none_named keys zero x h none = absurd (omega arith)
none_named keys (suc n) x h none = elim (cases_lt x n) [
  | inl before ↦ none_named keys n x before (left_false (is_any_named keys n) (is_named (slice_index keys n)) none)
  | inr here ↦ (
      let same : n ≡ x = omega arith in
      subst (λ k. is_named (slice_index keys k) ≡ false) same (right_false (is_any_named keys n) (is_named (slice_index keys n)) none)
      )
]

-- where main isn't black and arithmetic isn't named, the colour is the one in front
unnamed_is : (m : ColourMath) (inside : Bool) → is_mixed m inside false ≡ false
unfolding is_mixed
unnamed_is m inside = refl

pub unnamed_stays :
    (m : ColourMath) (inside : Bool) (main : ℕ) (named found : Bool) (sub : ℕ) → m.black ≡ Never → named ≡ false →
    main ≡ mixed m inside main named found sub
unnamed_stays m inside main named found sub black none =
    plain_is m inside main named found sub black (ap (is_mixed m inside) none ∙ unnamed_is m inside)

pub ruleset unnamed = (none_named, unnamed_stays)

-- where the sub screen isn't asked for, its colour doesn't count
picked_apart :
    (asked found : Bool) (fixed one two : ℕ) → (asked ≡ true → one ≡ two) →
    (if asked && found then one else fixed) ≡ (if asked && found then two else fixed)
picked_apart true true fixed one two alike = alike refl
picked_apart true false fixed one two alike = refl
picked_apart false found fixed one two alike = refl

pub mixed_apart :
    (m : ColourMath) (inside : Bool) (main : ℕ) (named found : Bool) (one two : ℕ) → (m.sub_screen ≡ true → one ≡ two) →
    mixed m inside main named found one ≡ mixed m inside main named found two
unfolding mixed
mixed_apart m inside main named found one two alike = rw (picked_apart m.sub_screen found (fixed_colour m) one two alike) refl

pub ruleset apart = mixed_apart

-- the backdrop's colour is the first of CGRAM, direct colours or not
unfound_colour : (cgram : List ℕ) (direct : Bool) (low high : ℕ) → pixel_colour cgram direct low high 0 0 ≡ slice_index cgram 0
unfolding pixel_colour is_found
unfound_colour cgram true low high = refl
unfound_colour cgram false low high = refl

unnamed_backdrop : (p : Picture) → p.registers.colour.backdrop ≡ false → backdrop p.registers ≡ no_pixel
unfolding backdrop
unnamed_backdrop p h = ap (λ (b : Bool). let i : RankedPixel = record { key = if b then 8 else 0; number = 0 } in i) h

-- the main screen's colour where no layer stands, the backdrop isn't named for arithmetic, and main isn't black
bare_main : (p : Picture) (x : ℕ) → p.registers.colour.black ≡ Never → main_colour p x no_pixel no_pixel ≡ slice_index p.cgram 0
unfolding main_colour front_pixel_colour
bare_main p x black =
    sym (plain_is p.registers.colour (is_inside p.registers 6 x) _ false _ _ black (unnamed_is p.registers.colour (is_inside p.registers 6 x)))
    ∙ unfound_colour p.cgram (has_direct p.registers) (layer_rank p.registers 1 0) (layer_rank p.registers 1 1)

other_of : (b : Bool) (one two : ℕ) → b ≡ false → (if b then one else two) ≡ two
other_of b one two h = ap (λ (t : Bool). if t then one else two) h

pub bare_even : (p : Picture) (x : ℕ) → p.registers.display.blanked ≡ false → is_halved p.registers ≡ false →
    p.registers.colour.backdrop ≡ false → p.registers.colour.black ≡ Never →
    even_dot p x (backdrop p.registers) no_pixel ≡ dimmed p.registers.display.brightness (slice_index p.cgram 0)
unfolding even_dot
bare_even p x shown whole unnamed black =
    ap (λ (i : RankedPixel). even_dot p x i no_pixel) (unnamed_backdrop p unnamed)
    ∙ other_of p.registers.display.blanked 0 _ shown
    ∙ ap (dimmed p.registers.display.brightness) (other_of (is_halved p.registers) _ _ whole ∙ bare_main p x black)

pub bare_odd : (p : Picture) (x : ℕ) → p.registers.display.blanked ≡ false → p.registers.colour.backdrop ≡ false →
    p.registers.colour.black ≡ Never →
    odd_dot p x (backdrop p.registers) no_pixel ≡ dimmed p.registers.display.brightness (slice_index p.cgram 0)
unfolding odd_dot
bare_odd p x shown unnamed black =
    ap (λ (i : RankedPixel). odd_dot p x i no_pixel) (unnamed_backdrop p unnamed)
    ∙ other_of p.registers.display.blanked 0 _ shown
    ∙ ap (dimmed p.registers.display.brightness) (bare_main p x black)

pub ruleset bare = (bare_even, bare_odd)
