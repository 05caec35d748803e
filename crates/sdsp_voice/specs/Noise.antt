-- The noise generator: a shift register of 15 bits that all voices share (nocash fullsnes, "SNES APU DSP").
use Rattle.std.specs.Prelude.{ℕ, ◌+◌, ◌*◌, ◌/◌, ◌%◌, if◌then◌else◌}
use Rattle.sdsp_voice.specs.Envelope.{is_due}
use Rattle.sdsp_voice.specs.Registers.{kept}
use Rattle.sdsp_voice.specs.declared.voices.Voices.{Voices}

-- down by one bit; the new top bit tells whether the two lowest differ
abbrev pub noise_after : ℕ → ℕ
noise_after n = n / 2 + 16384 * ((n + n / 2) % 2)

-- it moves at the rate of FLG (6C) bits 4-0
unfoldable pub after_noise : ℕ → Voices → Voices
after_noise s d = record d { noise = if is_due (kept d 0x6C % 32) s then noise_after d.noise else d.noise }
