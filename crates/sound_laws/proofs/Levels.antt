-- A sample at the full level is itself.
use Rattle.std.proofs.Common.{◌≡◌, ◌∙◌, ℕ, ℤ, pos, negsuc, neg_ℤ, suc, ◌+◌, ◌*◌, ◌/◌, ◌%◌, ◌<◌, ◌*ℤ◌, arith, ap}
use Rattle.std.specs.Int.{w16, cast_signed, cast_unsigned}
use Rattle.std.proofs.Math.IntN.{pos-*ℤ-pos, negsuc-*ℤ-pos}
use Rattle.std.proofs.lemmas.Int.{of_z-to_z}
use Rattle.sdsp_voice.specs.Signed.{shifted}
use Rattle.audio_side.specs.Effect.{pair_bytes}
use Rattle.stem_player.specs.Heard.{at_level, faded}

pub unshifted : (z : ℤ) → shifted (z *ℤ pos 65536) 16 ≡ z
unshifted (pos n) =
    let e : n * 65536 / 65536 ≡ n = omega arith in
    ap (λ (z : ℤ). shifted z 16) (pos-*ℤ-pos n 65536) ∙ ap pos e
unshifted (negsuc n) =
    let e : (n * 65536 + 65535) / 65536 ≡ n = omega arith in
    let all : suc n * 65536 ≡ suc (n * 65536 + 65535) = omega arith in
    ap (λ (z : ℤ). shifted z 16) (negsuc-*ℤ-pos n 65536) ∙ ap (λ (m : ℕ). shifted (neg_ℤ (pos m)) 16) all ∙ ap negsuc e

full_number : (x : ℕ) → x < 65536 → cast_unsigned w16 (faded 65536 (cast_signed w16 (x % 256 + 256 * (x / 256)))) ≡ x
unfolding faded
full_number x h =
    let n = x % 256 + 256 * (x / 256) in
    let e : n ≡ x = omega arith in
    let same : faded 65536 (cast_signed w16 n) ≡ cast_signed w16 n = unshifted (cast_signed w16 n) in
    ap (cast_unsigned w16) same ∙ ap (λ (n : ℕ). cast_unsigned w16 (cast_signed w16 n)) e ∙ of_z-to_z w16 x h

pub full_level : (x y : ℕ) → x < 65536 → y < 65536 → at_level 65536 (pair_bytes x y) ≡ pair_bytes x y
unfolding at_level
full_level x y h i =
    let right = cast_unsigned w16 (faded 65536 (cast_signed w16 (y % 256 + 256 * (y / 256)))) in
    ap (λ (n : ℕ). pair_bytes n right) (full_number x h) ∙ ap (pair_bytes x) (full_number y i)
