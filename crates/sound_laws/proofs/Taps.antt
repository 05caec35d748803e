use Rattle.std.proofs.Common.{◌≡◌, ◌<◌, ℕ, ℤ, pos, false, ◌+ℤ◌, List, refl, arith, lit<, subst}
use Rattle.std.proofs.Math.IntN.{*ℤ-zero, zero-*ℤ}
use Rattle.std.proofs.lemmas.Int.{ints}
use Rattle.sdsp_voice.specs.Signed.{clamped_16, wrapped_16}
use Rattle.sdsp_voice.specs.Registers.{bit, kept}
use Rattle.sdsp_voice.specs.declared.sums.Sums.{Sums}
use Rattle.sdsp_voice.specs.declared.voices.Voices.{Voices}
use Rattle.sdsp_echo.specs.Echo.{by_volume, evened, filtered, four_taps, heard_out, left_history, left_out, right_history, right_out, seven_taps, tap, tapped}
use Rattle.sdsp_echo.specs.declared.echo.Echo.{Echo}
use Rattle.sdsp_echo.specs.declared.history.History.{History}
use Rattle.sound_laws.specs.Silence.{HasNoTaps}

-- a tap of 0 gives 0
tapped-zero : (x : ℤ) (d : Voices) (k : ℕ) → k < 8 → HasNoTaps d → tapped x (tap d k) ≡ pos 0
unfolding tapped
tapped-zero x d k near none = rw (none k near, *ℤ-zero) refl

filtered-zero : (d : Voices) (h : History) → HasNoTaps d → filtered d h ≡ pos 0
unfolding filtered seven_taps four_taps wrapped_16 clamped_16 evened
filtered-zero d h none =
    rw (tapped-zero h.h0 d 0 (lit< tt) none, tapped-zero h.h1 d 1 (lit< tt) none, tapped-zero h.h2 d 2 (lit< tt) none, tapped-zero h.h3 d 3 (lit< tt) none, tapped-zero h.h4 d 4 (lit< tt) none, tapped-zero h.h5 d 5 (lit< tt) none, tapped-zero h.h6 d 6 (lit< tt) none, tapped-zero h.h7 d 7 (lit< tt) none) refl

by_volume-zero : (volume : ℕ) → by_volume (pos 0) volume ≡ pos 0
unfolding by_volume
by_volume-zero volume = rw zero-*ℤ refl

plus-zero : (z : ℤ) → z ≡ z +ℤ pos 0
plus-zero z = omega (arith, ints)

heard-zero : (d : Voices) (sum : ℤ) (main : ℕ) (z : ℤ) (volume : ℕ) → bit (kept d 0x6C) 6 ≡ false → z ≡ pos 0 → heard_out d sum main z volume ≡ clamped_16 (by_volume sum main)
unfolding heard_out
heard-zero d sum main z volume loud none =
    rw (loud, none, by_volume-zero volume) (subst (λ (x : ℤ). clamped_16 x ≡ clamped_16 (by_volume sum main)) (plus-zero (by_volume sum main)) refl)

pub left_without_taps : (d : Voices) (sums : Sums) (ram : List ℕ) (e : Echo) → bit (kept d 0x6C) 6 ≡ false → HasNoTaps d → left_out d sums ram e ≡ clamped_16 (by_volume sums.left (kept d 0x0C))
unfolding left_out
left_without_taps d sums ram e loud none = heard-zero d sums.left _ _ _ loud (filtered-zero d (left_history d ram e) none)

pub right_without_taps : (d : Voices) (sums : Sums) (ram : List ℕ) (e : Echo) → bit (kept d 0x6C) 6 ≡ false → HasNoTaps d → right_out d sums ram e ≡ clamped_16 (by_volume sums.right (kept d 0x1C))
unfolding right_out
right_without_taps d sums ram e loud none = heard-zero d sums.right _ _ _ loud (filtered-zero d (right_history d ram e) none)
