-- Dots from their even and odd halves.
use Rattle.std.proofs.Common.{◌≡◌, ℕ, ◌+◌, ◌*◌, ◌/◌, ◌%◌, ◌<◌, ◌≤◌, ◌==◌, Bool, true, false, Option, None, Some, IfSome, List, get_or, refl, ap, ◌∙◌, if◌then◌else◌, ⊎_elim, arith}
use Rattle.std.proofs.lemmas.Bool.{cases_lt}
use Rattle.ppu_regs.specs.Picture.{Picture}
use Rattle.scanline_ops.specs.RankedPixels.{RankedPixel, no_pixel}
use Rattle.ppu_screens.specs.Screens.{backdrop, even_dot, odd_dot}
use Rattle.ppu_line.specs.Line.{main_front, sub_front, pixel}

even_dot_at : (out : List ℕ) (even odd : ℕ → ℕ) (e : ℕ) → get_or out (2 * (e / 2)) 0 ≡ even (e / 2) → e % 2 ≡ 0 →
    get_or out e 0 ≡ (if e % 2 == 0 then even (e / 2) else odd (e / 2))
even_dot_at out even odd e h z = let place : 2 * (e / 2) ≡ e = omega arith in rw z (rw place at h)

odd_dot_at : (out : List ℕ) (even odd : ℕ → ℕ) (e : ℕ) → get_or out (2 * (e / 2) + 1) 0 ≡ odd (e / 2) → e % 2 ≡ 1 →
    get_or out e 0 ≡ (if e % 2 == 0 then even (e / 2) else odd (e / 2))
odd_dot_at out even odd e h z = let place : 2 * (e / 2) + 1 ≡ e = omega arith in rw z (rw place at h)

pub halves : (out : List ℕ) (even odd : ℕ → ℕ) → ((x : ℕ) → x < 256 → get_or out (2 * x) 0 ≡ even x) →
    ((x : ℕ) → x < 256 → get_or out (2 * x + 1) 0 ≡ odd x) → (e : ℕ) → e < 512 →
    get_or out e 0 ≡ (if e % 2 == 0 then even (e / 2) else odd (e / 2))
halves out even odd he ho e h =
    let here : e / 2 < 256 = omega arith in
    ⊎_elim
    (λ (low : e % 2 < 1). even_dot_at out even odd e (he (e / 2) here) (omega arith))
    (λ (high : 1 ≤ e % 2). odd_dot_at out even odd e (ho (e / 2) here) (omega arith))
    (cases_lt (e % 2) 1)

either_alike : (b : Bool) (one two c : ℕ) → one ≡ c → two ≡ c → (if b then one else two) ≡ c
either_alike true one two c e f = e
either_alike false one two c e f = f

-- in forced blank every dot is black
pub blank_pixel : (p : Picture) (row e : ℕ) → p.registers.display.blanked ≡ true → pixel p row e ≡ 0
unfolding pixel even_dot odd_dot
blank_pixel p row e h = rw h (either_alike (e % 2 == 0) 0 0 0 refl refl)

-- where nothing but the backdrop stands, and its dots have one colour, so has the row
pub bare_pixel : (p : Picture) (row e c : ℕ) → ((x : ℕ) → main_front p row x ≡ backdrop p.registers) →
    ((x : ℕ) → sub_front p row x ≡ no_pixel) → ((x : ℕ) → even_dot p x (backdrop p.registers) no_pixel ≡ c) →
    ((x : ℕ) → odd_dot p x (backdrop p.registers) no_pixel ≡ c) → pixel p row e ≡ c
unfolding pixel
bare_pixel p row e c main sub even odd =
    either_alike (e % 2 == 0) _ _ c
    (ap (λ (i : RankedPixel). even_dot p (e / 2) i (sub_front p row (e / 2))) (main (e / 2))
    ∙ ap (λ (i : RankedPixel). even_dot p (e / 2) (backdrop p.registers) i) (sub (e / 2)) ∙ even (e / 2))
    (ap (λ (i : RankedPixel). odd_dot p (e / 2) i (sub_front p row (e / 2))) (main (e / 2))
    ∙ ap (λ (i : RankedPixel). odd_dot p (e / 2) (backdrop p.registers) i) (sub (e / 2)) ∙ odd (e / 2))

pub ruleset blank = blank_pixel

pub some_alike : (p : Picture) (row : ℕ) (colour : Option ℕ) → ((x : ℕ) → main_front p row x ≡ backdrop p.registers) →
    ((x : ℕ) → sub_front p row x ≡ no_pixel) → IfSome colour (λ c. (x : ℕ) → even_dot p x (backdrop p.registers) no_pixel ≡ c) →
    IfSome colour (λ c. (x : ℕ) → odd_dot p x (backdrop p.registers) no_pixel ≡ c) → IfSome colour (λ c. (e : ℕ) → pixel p row e ≡ c)
some_alike p row None main sub even odd = tt
some_alike p row (Some c) main sub even odd = λ e. bare_pixel p row e c main sub even odd
