-- The echo: a delay line in RAM behind a filter of eight taps, and the final mix (nocash fullsnes, "SNES APU DSP Echo").
use Rattle.std.specs.Prelude.{ℕ, ℤ, pos, true, ◌≡◌, ◌+◌, ◌*◌, ◌/◌, ◌%◌, ◌==◌, ◌+ℤ◌, ◌*ℤ◌, nat_le, List, slice_set, if◌then◌else◌}
use Rattle.std.specs.Int.{w16, cast_signed, cast_unsigned}
use Rattle.sdsp_voice.specs.Signed.{shifted, signed_byte, wrapped_16, clamped_16}
use Rattle.sdsp_voice.specs.Brr.{word_at}
use Rattle.sdsp_voice.specs.Registers.{bit, kept}
use Rattle.sdsp_voice.specs.declared.sums.Sums.{Sums}
use Rattle.sdsp_voice.specs.declared.voices.Voices.{Voices}
use Rattle.sdsp_echo.specs.declared.history.History.{History}
use Rattle.sdsp_echo.specs.declared.echo.Echo.{Echo}

-- 7D EDL bits 3-0: 2048 bytes to a step of 16 ms, or 4 bytes
abbrev pub length_of : Voices → ℕ
length_of d = let delay = kept d 0x7D % 16 in if delay == 0 then 4 else 2048 * delay

-- the length in force: it is taken where the offset is 0
unfoldable pub length_now : Voices → Echo → ℕ
length_now d e = if e.offset == 0 then length_of d else e.length

-- 6D ESA: the page of RAM where the delay line begins
unfoldable pub place_of : Voices → Echo → ℕ
place_of d e = (256 * kept d 0x6D + e.offset) % 65536

-- a signed number of RAM, halved
unfoldable pub heard : List ℕ → ℕ → ℤ
heard ram address = shifted (cast_signed w16 (word_at ram address)) 1

-- eight numbers with a new one, the oldest dropped
unfoldable pub pushed : History → ℤ → History
pushed h x = record { h0 = h.h1; h1 = h.h2; h2 = h.h3; h3 = h.h4; h4 = h.h5; h5 = h.h6; h6 = h.h7; h7 = x }

-- kF FIR: tap k, 0 for the oldest number
abbrev pub tap : Voices → ℕ → ℤ
tap d k = signed_byte (kept d (16 * k + 15))

unfoldable pub tapped : ℤ → ℤ → ℤ
tapped x c = shifted (x *ℤ c) 6

-- z without its low bit
unfoldable pub evened : ℤ → ℤ
evened z = pos 2 *ℤ shifted z 1

-- taps 0 to 3, and 0 to 6
unfoldable pub four_taps : Voices → History → ℤ
four_taps d h = tapped h.h0 (tap d 0) +ℤ tapped h.h1 (tap d 1) +ℤ tapped h.h2 (tap d 2) +ℤ tapped h.h3 (tap d 3)

unfoldable pub seven_taps : Voices → History → ℤ
seven_taps d h =
    four_taps d h +ℤ tapped h.h4 (tap d 4) +ℤ tapped h.h5 (tap d 5) +ℤ tapped h.h6 (tap d 6)

-- THE FILTER: taps 0 to 6 wrap at 16 bits, the last one is held; the low bit is cleared
unfoldable pub filtered : Voices → History → ℤ
filtered d h = evened (clamped_16 (wrapped_16 (seven_taps d h) +ℤ tapped h.h7 (tap d 7)))

-- a number by a volume
unfoldable pub by_volume : ℤ → ℕ → ℤ
by_volume z volume = shifted (z *ℤ signed_byte volume) 7

-- THE OUTPUT: the sum by the main volume and the filter's by the echo volume; FLG (6C) bit 6 mutes it
unfoldable pub heard_out : Voices → ℤ → ℕ → ℤ → ℕ → ℤ
heard_out d sum main filter volume =
    if bit (kept d 0x6C) 6 then pos 0 else clamped_16 (by_volume sum main +ℤ by_volume filter volume)

-- WHAT GOES BACK: the echo's sum and the filter by the feedback (0D EFB), the low bit cleared
unfoldable pub fed_back : Voices → ℤ → ℤ → ℕ
fed_back d sum filter = cast_unsigned w16 (evened (clamped_16 (sum +ℤ by_volume filter (kept d 0x0D))))

-- a number of 16 bits put into RAM, the low byte first
unfoldable pub put_word : List ℕ → ℕ → ℕ → List ℕ
put_word ram address word = slice_set (slice_set ram (address % 65536) (word % 256)) ((address + 1) % 65536) (word / 256)

unfoldable pub left_history : Voices → List ℕ → Echo → History
left_history d ram e = pushed e.left (heard ram (place_of d e))

unfoldable pub right_history : Voices → List ℕ → Echo → History
right_history d ram e = pushed e.right (heard ram (place_of d e + 2))

-- four bytes on, and at the length 0 again
abbrev pub offset_after : ℕ → ℕ → ℕ
offset_after offset length = if nat_le length (offset + 4) then 0 else offset + 4

-- THE ECHO AFTER A SAMPLE
unfoldable pub after_mix : Voices → List ℕ → Echo → Echo
after_mix d ram e =
    record {
      left = left_history d ram e;
      right = right_history d ram e;
      offset = offset_after e.offset (length_now d e);
      length = length_now d e;
    }

-- THE TWO NUMBERS OF A SAMPLE: 0C MVOLL, 1C MVOLR, 2C EVOLL, 3C EVOLR
unfoldable pub left_out : Voices → Sums → List ℕ → Echo → ℤ
left_out d sums ram e = heard_out d sums.left (kept d 0x0C) (filtered d (left_history d ram e)) (kept d 0x2C)

unfoldable pub right_out : Voices → Sums → List ℕ → Echo → ℤ
right_out d sums ram e = heard_out d sums.right (kept d 0x1C) (filtered d (right_history d ram e)) (kept d 0x3C)

-- RAM AFTER A SAMPLE: FLG bit 5 stops the writes
unfoldable pub ram_after : Voices → Sums → List ℕ → Echo → List ℕ
ram_after d sums ram e =
    if bit (kept d 0x6C) 5 then ram
    else put_word (put_word ram (place_of d e) (fed_back d sums.echo_left (filtered d (left_history d ram e)))) (place_of d e + 2) (fed_back d sums.echo_right (filtered d (right_history d ram e)))

-- the filter is for nothing: the echo has no volume, and FLG bit 5 stops the writes
pub record IsUnheard (d : Voices) : Type 0 where
  pub left : kept d 0x2C ≡ 0
  pub right : kept d 0x3C ≡ 0
  pub stopped : bit (kept d 0x6C) 5 ≡ true

abbrev pub silent_history : History
silent_history = record { h0 = pos 0; h1 = pos 0; h2 = pos 0; h3 = pos 0; h4 = pos 0; h5 = pos 0; h6 = pos 0; h7 = pos 0 }

-- AFTER POWER ON
abbrev pub silent_echo : Echo
silent_echo = record { left = silent_history; right = silent_history; offset = 0; length = 4 }
