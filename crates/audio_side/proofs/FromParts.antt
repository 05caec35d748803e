-- The registers of the S-DSP, written one after another.
use Rattle.std.proofs.Common.{◌≡◌, ◌≢◌, ℕ, ◌+◌, List, refl, add-one, slice_index}
use Rattle.std.proofs.lemmas.Bool.{ne_eqb}
use Rattle.snes_defs.specs.declared.profile.Profile.TheVariants.{First}
use Rattle.sdsp_voice.specs.Registers.{at_power_on, written}
use Rattle.audio_side.specs.FromParts.{written_below}

pub no_register : (dsp : List ℕ) → written_below dsp 0 ≡ at_power_on First
unfolding written_below
no_register dsp = refl

pub one_more_register : (dsp : List ℕ) (n : ℕ) → n ≢ 0x4C → written_below dsp (n + 1) ≡ written (written_below dsp n) n (slice_index dsp n)
unfolding written_below
one_more_register dsp n other = rw (add-one, ne_eqb n 0x4C other) refl

pub keys_wait : (dsp : List ℕ) (n : ℕ) → n ≡ 0x4C → written_below dsp (n + 1) ≡ written_below dsp n
unfolding written_below
keys_wait dsp n is = rw (add-one, is) refl
