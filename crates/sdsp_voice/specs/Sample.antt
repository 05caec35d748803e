-- ONE SAMPLE of the eight voices (order: this project's own profile, after nocash fullsnes, "SNES APU DSP"): keys,
-- noise, then for each voice from 0 its output, its envelope, and its position. Last, in the second profile, a voice is
-- muted if its block has the end and not the loop.
use Rattle.std.specs.Prelude.{ℕ, ℤ, pos, Bool, not, zero, suc, ◌&&◌, ◌+◌, ◌/◌, ◌%◌, ◌+ℤ◌, ◌*ℤ◌, ◌≡◌, ◌<◌, List, slice_index_or, slice_set, if◌then◌else◌}
use Rattle.std.specs.Int.{w32, cast_unsigned, int_max, int_min}
use Rattle.sdsp_voice.specs.Signed.{shifted, wrapped_15, clamped_16}
use Rattle.snes_defs.specs.declared.profile.Profile.{Profile}
use Rattle.snes_defs.specs.declared.profile.Profile.TheVariants.{First, Second}
use Rattle.sdsp_voice.specs.Registers.{bit, resting_voice, setting, voice}
use Rattle.sdsp_voice.specs.Brr.{at, decoded_times}
use Rattle.sdsp_voice.specs.Envelope.{after_envelope}
use Rattle.sdsp_voice.specs.Interpolation.{interpolated}
use Rattle.sdsp_voice.specs.Noise.{after_noise}
use Rattle.sdsp_voice.specs.Keys.{after_keys, muted}
use Rattle.sdsp_voice.specs.declared.voice.Phase.TheVariants.{Release}
use Rattle.sdsp_voice.specs.declared.voice.Voice.{Voice}
use Rattle.sdsp_voice.specs.declared.setting.Setting.{Setting}
use Rattle.sdsp_voice.specs.declared.sums.Sums.{Sums}
use Rattle.sdsp_voice.specs.declared.voices.Voices.{Voices}

-- THE OUTPUT of a voice: its value, or the noise as a signed number of 15 bits, by its envelope
unfoldable pub output : List ℕ → ℕ → Setting → Voice → ℤ
output table noise t w =
    shifted ((if t.noisy then wrapped_15 (pos noise) else interpolated table w) *ℤ pos w.envelope) 11

-- an output by a volume
unfoldable pub by_volume : ℤ → ℤ → ℤ
by_volume out volume = shifted (out *ℤ volume) 6

-- an output added to a sum, held at the ends of 16 bits
unfoldable pub added : ℤ → ℤ → ℤ → ℤ
added sum out volume = clamped_16 (sum +ℤ by_volume out volume)

-- the sums with an output more; those of the echo only where the voice has echo on
unfoldable pub mixed : Sums → ℤ → Setting → Sums
mixed sums out t =
    record {
      left = added sums.left out t.left;
      right = added sums.right out t.right;
      echo_left = if t.echoed then added sums.echo_left out t.left else sums.echo_left;
      echo_right = if t.echoed then added sums.echo_right out t.right else sums.echo_right;
    }

-- ENVX (bits 10-4 of the envelope) and OUTX (the output's high byte) of this sample
unfoldable pub shown : ℤ → Voice → Voice
shown out w = record w { envx = w.envelope / 16 % 128; outx = cast_unsigned w32 (shifted out 7) % 256 }

-- THE PITCH, moved by the output of the voice before where modulation is on, from 0 to 3FFF
unfoldable pub pitch_of : Setting → ℤ → ℕ
pitch_of t before =
    if t.modulated then cast_unsigned w32 (int_max (pos 0) (int_min (pos t.pitch +ℤ shifted (shifted before 4 *ℤ pos t.pitch) 10) (pos 0x3FFF)))
    else t.pitch

-- THE POSITION grows by the pitch; for each 1000 in it a sample is decoded
unfoldable pub moved : List ℕ → ℕ → ℕ → Voice → Voice
moved ram entry pitch w =
    let position = w.position + pitch in
    decoded_times ram entry (position / 4096) (record w { position = position % 4096 })

-- a voice after its output: shown, then its envelope, then its position
unfoldable pub gone_on : List ℕ → Setting → ℕ → ℤ → ℤ → Voice → Voice
gone_on ram t s before out w = moved ram t.entry (pitch_of t before) (after_envelope t s (shown out w))

-- the voices in the middle of a sample: the list, the sums so far, and the output of the voice before
pub record Pass : Type 0 where
  pub voices : List Voice
  pub sums : Sums
  pub before : ℤ

-- the voices with some sums and an output
abbrev pub pass : Voices → Sums → ℤ → Pass
pass d sums' before' = record { voices = d.voices; sums = sums'; before = before' }

-- the turn of voice v, by the registers and the noise of d
unfoldable pub turn : List ℕ → List ℕ → ℕ → Voices → ℕ → Pass → Pass
turn ram table s d v p =
    let w = slice_index_or p.voices v resting_voice in
    let t = setting d v in
    let out = output table d.noise t w in
    record {
      voices = slice_set p.voices v (gone_on ram t s p.before out w);
      sums = mixed p.sums out t;
      before = out;
    }

abbrev pub no_sums : Sums
no_sums = record { left = pos 0; right = pos 0; echo_left = pos 0; echo_right = pos 0 }

-- a voice that is silent, released, and without pitch: its turn changes nothing but what it shows
pub record IsResting (d : Voices) (v : ℕ) : Type 0 where
  pub silent : (voice d v).envelope ≡ 0
  pub released : (voice d v).phase ≡ Release
  pub near : (voice d v).position < 4096
  pub still : (setting d v).pitch ≡ 0

-- such a voice that shows zeros already: no sample changes it, and it adds nothing
pub record IsStill (d : Voices) (v : ℕ) : Type 0 where
  pub rests : IsResting d v
  pub no_level : (voice d v).envx ≡ 0
  pub no_output : (voice d v).outx ≡ 0

-- the turns of the first n voices
unfoldable pub turns : List ℕ → List ℕ → ℕ → Voices → ℕ → Pass
turns ram table s d zero = record { voices = d.voices; sums = no_sums; before = pos 0 }
turns ram table s d (suc n) = turn ram table s d n (turns ram table s d n)

-- whether the block at a voice's address has the end and not the loop (header bits 0 and 1)
abbrev pub is_in_last_block : List ℕ → Voice → Bool
is_in_last_block ram w = bit (at ram w.address) 0 && not (bit (at ram w.address) 1)

-- such a voice is muted
unfoldable pub cut : List ℕ → Voice → Voice
cut ram w = if is_in_last_block ram w then muted w else w

-- the first n voices of a list
unfoldable pub cut_below : List ℕ → List Voice → ℕ → List Voice
cut_below ram xs zero = xs
cut_below ram xs (suc n) = slice_set (cut_below ram xs n) n (cut ram (slice_index_or (cut_below ram xs n) n resting_voice))

-- AFTER THE TURNS: the second profile mutes a voice as soon as it has come to a block with the end and without the loop
unfoldable pub after_turns : Profile → List ℕ → List Voice → List Voice
after_turns First ram xs = xs
after_turns Second ram xs = cut_below ram xs 8

-- before the voices' turns
unfoldable pub prepared : List ℕ → ℕ → Voices → Voices
prepared ram s d = after_noise s (after_keys ram s d)

-- THE VOICES AFTER SAMPLE s
unfoldable pub after_sample : List ℕ → List ℕ → ℕ → Voices → Voices
after_sample ram table s d =
    record (prepared ram s d) { voices = after_turns d.profile ram (turns ram table s (prepared ram s d) 8).voices }

-- THE SUMS OF SAMPLE s
unfoldable pub sums_of : List ℕ → List ℕ → ℕ → Voices → Sums
sums_of ram table s d = (turns ram table s (prepared ram s d) 8).sums
