-- A sound machine that plays by itself: its four incoming ports hold bytes, and nobody is at the other side of them.
use Rattle.std.specs.Prelude.{◌≡◌, ◌≤◌, ℕ, zero, suc, ◌+◌, ◌*◌, ◌-◌, ◌%◌, List, [], ◌∷◌, ◌++◌, length, slice_index}
use Rattle.side_law.specs.Serial.{got_of, incoming_after}
use Rattle.audio_side.specs.FromParts.{sound_from}
use Rattle.audio_side.specs.Sound.{SoundState, sound_moves}
use Rattle.spc_player.specs.SoundFile.{Image}

pub record Playing : Type 0 where
  pub sound : SoundState
  -- the four bytes at the incoming ports
  pub ports : List ℕ

-- the byte that the next step gets: where it reads a port, the port's
abbrev pub got : Playing → ℕ
got w = got_of (sound_moves.act w.sound) w.ports

-- ONE STEP: a clear zeroes the bytes of its mask, a write changes none
abbrev pub stepped : Playing → Playing
stepped w =
    record { sound = sound_moves.next w.sound (got w); ports = incoming_after (sound_moves.act w.sound) w.ports }

-- the bytes that it emits
abbrev pub step_emits : Playing → List ℕ
step_emits w = sound_moves.bytes w.sound (got w)

abbrev pub after_steps : Playing → ℕ → Playing
after_steps w zero = w
after_steps w (suc n) = stepped (after_steps w n)

-- what so many steps emit, joined in order
abbrev pub output : Playing → ℕ → List ℕ
output w zero = []
output w (suc n) = output w n ++ step_emits (after_steps w n)

-- THE FIRST PAIRS: what some number of steps emit, where that is so many pairs of two numbers of two bytes
pub record AreFirstPairs (w : Playing) (pairs : ℕ) (bytes : List ℕ) : Type 0 where
  pub steps : ℕ
  pub emitted : output w steps ≡ bytes
  pub count : length bytes ≡ 4 * pairs

-- how many steps the next sample takes: it comes with the last of each 32 cycles
abbrev pub to_sample : Playing → ℕ
to_sample w = 32 - w.sound.clock.cycle % 32

-- so many steps, no more than the next sample takes, and the stamp before which they begin
pub record IsNear (w : Playing) (end n : ℕ) : Type 0 where
  pub end_is : end ≡ 118125 * (w.sound.clock.cycle + n)
  pub few : n ≤ to_sample w

-- and how many so many samples take
unfoldable pub steps_of : Playing → ℕ → ℕ
steps_of w zero = 0
steps_of w (suc n) = to_sample (after_steps w (steps_of w n)) + steps_of w n

-- THE START of a file by an interpolation table: the ports hold the bytes of RAM under F4 to F7
abbrev pub play_start : Image → List ℕ → Playing
play_start image table' =
    record {
      sound = sound_from image.regs image.ram image.dsp table';
      ports = slice_index image.ram 0xF4 ∷ slice_index image.ram 0xF5 ∷ slice_index image.ram 0xF6 ∷ slice_index image.ram 0xF7 ∷ [];
    }
