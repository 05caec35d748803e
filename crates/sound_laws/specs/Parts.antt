-- What each voice adds to a sample, before the sums are held at the ends of 16 bits.
use Rattle.std.specs.Prelude.{◌≡◌, ℕ, ℤ, suc, ◌^◌, ◌<◌, ◌+ℤ◌, List}
use Rattle.sdsp_voice.specs.Registers.{setting}
use Rattle.sdsp_voice.specs.Sample.{by_volume, prepared, sums_of, turns}
use Rattle.sdsp_voice.specs.Signed.{clamped_16}
use Rattle.sdsp_voice.specs.declared.voices.Voices.{Voices}
use Rattle.audio_side.specs.Stem.{stem_voices}

-- the sum of eight numbers
abbrev pub eight : (ℕ → ℤ) → ℤ
eight f = f 0 +ℤ f 1 +ℤ f 2 +ℤ f 3 +ℤ f 4 +ℤ f 5 +ℤ f 6 +ℤ f 7

module _ (ram table : List ℕ) (s : ℕ) (d : Voices) where
  -- the sums after the first n voices
  abbrev pub left_below : ℕ → ℤ
  left_below n = (turns ram table s (prepared ram s d) n).sums.left

  abbrev pub right_below : ℕ → ℤ
  right_below n = (turns ram table s (prepared ram s d) n).sums.right

  -- what voice v adds: its output by its volume
  abbrev pub left_part : ℕ → ℤ
  left_part v = by_volume (turns ram table s (prepared ram s d) (suc v)).before (setting (prepared ram s d) v).left

  abbrev pub right_part : ℕ → ℤ
  right_part v = by_volume (turns ram table s (prepared ram s d) (suc v)).before (setting (prepared ram s d) v).right

  -- NOTHING IS HELD at the ends of 16 bits: no sum, and no voice by itself
  pub record IsUnheld : Type 0 where
    pub left_sum : (v : ℕ) → v < 8 → left_below (suc v) ≡ left_below v +ℤ left_part v
    pub right_sum : (v : ℕ) → v < 8 → right_below (suc v) ≡ right_below v +ℤ right_part v
    pub left_fits : (v : ℕ) → v < 8 → clamped_16 (left_part v) ≡ left_part v
    pub right_fits : (v : ℕ) → v < 8 → clamped_16 (right_part v) ≡ right_part v

  -- the sums of the stem of voice v
  abbrev pub left_alone : ℕ → ℤ
  left_alone v = (sums_of ram table s (stem_voices (2 ^ v) d)).left

  abbrev pub right_alone : ℕ → ℤ
  right_alone v = (sums_of ram table s (stem_voices (2 ^ v) d)).right
