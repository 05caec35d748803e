-- A sound side with other room for resets, or with a reset more, stays in the state that it was in.
use Rattle.std.proofs.Common.{◌≡◌, ℕ, ap, subst, sym}
use Rattle.audio_side.specs.Sound.{AudioValue, SoundState, StandsAt}
use Rattle.audio_side.specs.Playing.{clock_with_room, sound_with_room, audio_with_room, clock_pressed, sound_pressed, audio_pressed}

roomy : (v : AudioValue) (n : ℕ) (m : SoundState) → StandsAt v m → StandsAt (audio_with_room v n) (sound_with_room m n)
roomy v n m h = record { processor = h.processor; hardware = h.hardware; clock = ap (λ c. clock_with_room c n) h.clock }

longer : (v : AudioValue) (frame : ℕ) (m : SoundState) → StandsAt v m → StandsAt (audio_pressed v frame) (sound_pressed m frame)
longer v frame m h = record { processor = h.processor; hardware = h.hardware; clock = ap (λ c. clock_pressed c frame) h.clock }

-- the same of a value that is told by an equation
pub copied : (v x : AudioValue) (n : ℕ) (m : SoundState) → x ≡ audio_with_room v n → StandsAt v m → StandsAt x (sound_with_room m n)
copied v x n m e h = subst (λ y. StandsAt y (sound_with_room m n)) (sym e) (roomy v n m h)

pub pressed : (v x : AudioValue) (frame : ℕ) (m : SoundState) → x ≡ audio_pressed v frame → StandsAt v m → StandsAt x (sound_pressed m frame)
pressed v x frame m e h = subst (λ y. StandsAt y (sound_pressed m frame)) (sym e) (longer v frame m h)
