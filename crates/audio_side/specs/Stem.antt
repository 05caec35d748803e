-- A STEM: some of the nine parts of the sound, which are the eight voices and the echo. It is a number of nine bits: bits 0 to 7 are voices 0 to 7, bit 8 is the echo.
use Rattle.std.specs.Prelude.{ℕ, zero, suc, ◌+◌, ◌*◌, List, if◌then◌else◌}
use Rattle.sdsp_voice.specs.Registers.{bit, written}
use Rattle.sdsp_voice.specs.declared.voices.Voices.{Voices}
use Rattle.audio_side.specs.HardwareState.{HardwareState}
use Rattle.audio_side.specs.Effect.{emitted}
use Rattle.audio_side.specs.Sound.{SoundState, hardware_before_end}

-- the two volume registers of a part are written 0, unless the stem has it
unfoldable pub silenced : ℕ → ℕ → ℕ → ℕ → Voices → Voices
silenced stem part left right d = if bit stem part then d else written (written d left 0) right 0

-- so those of the first n voices: v0 VOLL, v1 VOLR
unfoldable pub silenced_below : ℕ → ℕ → Voices → Voices
silenced_below stem zero d = d
silenced_below stem (suc v) d = silenced stem v (16 * v) (16 * v + 1) (silenced_below stem v d)

-- THE VOICES OF A STEM: those of all eight voices and of the echo, 2C EVOLL and 3C EVOLR
unfoldable pub stem_voices : ℕ → Voices → Voices
stem_voices stem d = silenced stem 8 0x2C 0x3C (silenced_below stem 8 d)

abbrev pub stem_hardware : ℕ → HardwareState → HardwareState
stem_hardware stem b = record b { voices = stem_voices stem b.voices }

-- WHAT A STEP EMITS FOR A STEM: what it would emit with the volumes of the other parts 0 behind its access. The machine itself goes on as ever, so the echo is that of all voices
abbrev pub stem_emitted : ℕ → SoundState → List ℕ
stem_emitted stem m = emitted m.clock.cycle (stem_hardware stem (hardware_before_end m))
