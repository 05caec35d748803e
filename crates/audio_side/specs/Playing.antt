-- A sound side that has memory for more resets, or that is reset in a frame more.
use Rattle.std.specs.Prelude.{ℕ, [], ◌∷◌, ◌++◌}
use Rattle.audio_side.specs.Clock.{Clock}
use Rattle.audio_side.specs.Sound.{AudioValue, SoundState}

-- memory for so many resets
abbrev pub clock_with_room : Clock → ℕ → Clock
clock_with_room c n = record c { room = n }

abbrev pub sound_with_room : SoundState → ℕ → SoundState
sound_with_room m n = record m { clock = clock_with_room m.clock n }

abbrev pub audio_with_room : AudioValue → ℕ → AudioValue
audio_with_room v n = record v { clock = clock_with_room v.clock n }

-- a frame more that begins with a reset, above those that were there
abbrev pub clock_pressed : Clock → ℕ → Clock
clock_pressed c frame = record c { resets = c.resets ++ frame ∷ [] }

abbrev pub sound_pressed : SoundState → ℕ → SoundState
sound_pressed m frame = record m { clock = clock_pressed m.clock frame }

abbrev pub audio_pressed : AudioValue → ℕ → AudioValue
audio_pressed v frame = record v { clock = clock_pressed v.clock frame }
