use Rattle.std.proofs.Common.{◌≡◌, ℕ, ℤ, pos, List, refl}
use Rattle.std.proofs.Math.IntN.{*ℤ-zero}
use Rattle.sdsp_voice.specs.Registers.{kept}
use Rattle.sdsp_voice.specs.declared.sums.Sums.{Sums}
use Rattle.sdsp_voice.specs.declared.voices.Voices.{Voices}
use Rattle.sdsp_echo.specs.Echo.{IsUnheard, by_volume, filtered, heard_out, left_history, left_out, ram_after, right_history, right_out}
use Rattle.sdsp_echo.specs.declared.echo.Echo.{Echo}

-- whatever the filter gives, without volume nothing of it is heard
by_no_volume : (z : ℤ) (volume : ℕ) → volume ≡ 0 → by_volume z volume ≡ by_volume (pos 0) 0
unfolding by_volume
by_no_volume z volume none = rw (none, *ℤ-zero) refl

heard_without : (d : Voices) (sum : ℤ) (main : ℕ) (filter : ℤ) (volume : ℕ) → volume ≡ 0 → heard_out d sum main filter volume ≡ heard_out d sum main (pos 0) 0
unfolding heard_out
heard_without d sum main filter volume none = rw (by_no_volume filter volume none) refl

pub left_unheard : (d : Voices) (sums : Sums) (ram : List ℕ) (e : Echo) → IsUnheard d → left_out d sums ram e ≡ heard_out d sums.left (kept d 0x0C) (pos 0) 0
unfolding left_out
left_unheard d sums ram e h =
    heard_without d sums.left (kept d 0x0C) (filtered d (left_history d ram e)) (kept d 0x2C) h.left

pub right_unheard : (d : Voices) (sums : Sums) (ram : List ℕ) (e : Echo) → IsUnheard d → right_out d sums ram e ≡ heard_out d sums.right (kept d 0x1C) (pos 0) 0
unfolding right_out
right_unheard d sums ram e h =
    heard_without d sums.right (kept d 0x1C) (filtered d (right_history d ram e)) (kept d 0x3C) h.right

pub ram_unheard : (d : Voices) (sums : Sums) (ram : List ℕ) (e : Echo) → IsUnheard d → ram_after d sums ram e ≡ ram
unfolding ram_after
ram_unheard d sums ram e h = rw h.stopped refl
