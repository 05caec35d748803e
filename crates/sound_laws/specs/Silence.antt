-- Settings of the S-DSP under which parts of it fall silent.
use Rattle.std.specs.Prelude.{◌≡◌, ℕ, ◌+◌, ◌*◌, ◌<◌, IsTrue}
use Rattle.sdsp_voice.specs.Registers.{bit, kept}
use Rattle.sdsp_voice.specs.declared.voices.Voices.{Voices}

-- FLG (6C) bit 6: the output is muted
abbrev pub IsMuted : Voices → Type 0
IsMuted d = IsTrue (bit (kept d 0x6C) 6)

-- each of the echo filter's eight taps (0F, 1F .. 7F) is 0
abbrev pub HasNoTaps : Voices → Type 0
HasNoTaps d = (k : ℕ) → k < 8 → kept d (16 * k + 15) ≡ 0
