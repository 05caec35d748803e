-- The envelope of a voice: four phases, and the rates by which it moves (nocash fullsnes, "SNES APU DSP ADSR/Gain Envelope").
use Rattle.std.specs.Prelude.{ℕ, Bool, true, false, not, ◌+◌, ◌-◌, ◌*◌, ◌/◌, ◌%◌, ◌==◌, ◌&&◌, min, nat_lt, nat_le, List, [], ◌∷◌, slice_index, if◌then◌else◌}
use Rattle.sdsp_voice.specs.Registers.{bit}
use Rattle.sdsp_voice.specs.declared.voice.Phase.{Phase}
use Rattle.sdsp_voice.specs.declared.voice.Phase.TheVariants.{Attack, Decay, Sustain, Release}
use Rattle.sdsp_voice.specs.declared.voice.Voice.{Voice}
use Rattle.sdsp_voice.specs.declared.setting.Setting.{Setting}

-- how many samples lie between two events of a rate, 0 to 31; rate 0 never has one
abbrev pub periods : List ℕ
periods = 0 ∷ 2048 ∷ 1536 ∷ 1280 ∷ 1024 ∷ 768 ∷ 640 ∷ 512 ∷ 384 ∷ 320 ∷ 256 ∷ 192 ∷ 160 ∷ 128 ∷ 96 ∷ 80 ∷ 64 ∷ 48 ∷ 40 ∷ 32 ∷ 24 ∷ 20 ∷ 16 ∷ 12 ∷ 10 ∷ 8 ∷ 6 ∷ 5 ∷ 4 ∷ 3 ∷ 2 ∷ 1 ∷ []

-- AN EVENT of a rate comes at each sample, from 0, whose number its period divides
unfoldable pub is_due : ℕ → ℕ → Bool
is_due rate s = not (rate == 0) && (s % slice_index periods rate == 0)

-- up by some, to 7FF at most
abbrev pub raised : ℕ → ℕ → ℕ
raised e by = min (e + by) 2047

-- the fall by a 256th
abbrev pub fallen : ℕ → ℕ
fallen e = e - ((e - 1) / 256 + 1)

-- ATTACK, at twice ADSR1 bits 3-0 and one: by 32, or 1024 at the fastest rate; it ends at 7E0
unfoldable pub after_attack : Setting → ℕ → Voice → Voice
after_attack t s w =
    let rate = 2 * (t.adsr1 % 16) + 1 in
    let e = (if is_due rate s then raised w.envelope (if rate == 31 then 1024 else 32) else w.envelope) in
    record w { envelope = e; phase = if nat_le 0x7E0 e then Decay else Attack }

-- DECAY, at twice ADSR1 bits 6-4 and 16: falls; it ends where bits 10-8 of the envelope are at most ADSR2 bits 7-5
unfoldable pub after_decay : Setting → ℕ → Voice → Voice
after_decay t s w =
    let e = (if is_due (2 * (t.adsr1 / 16 % 8) + 16) s then fallen w.envelope else w.envelope) in
    record w { envelope = e; phase = if nat_le (e / 256) (t.adsr2 / 32) then Sustain else Decay }

-- SUSTAIN, at ADSR2 bits 4-0: falls
unfoldable pub after_sustain : Setting → ℕ → Voice → Voice
after_sustain t s w = record w { envelope = if is_due (t.adsr2 % 32) s then fallen w.envelope else w.envelope }

-- GAIN bits 6-5 as a way to move: down by 32, the fall, up by 32, or up by 32 below 600 and by 8 from there
abbrev pub gained : ℕ → ℕ → ℕ
gained way e =
    if way == 0 then e - 32
    else (if way == 1 then fallen e
    else (if way == 2 then raised e 32
    else raised e (if nat_lt e 0x600 then 32 else 8)))

-- WITH GAIN: below 80 it is the level's seven high bits; else the way moves at the rate of bits 4-0
unfoldable pub after_gain : Setting → ℕ → Voice → Voice
after_gain t s w =
    record w {
      envelope =
          if nat_lt t.gain 128 then 16 * t.gain
          else (if is_due (t.gain % 32) s then gained (t.gain / 32 % 4) w.envelope else w.envelope);
    }

-- by the phase, where ADSR is on
abbrev pub after_phase : Phase → Setting → ℕ → Voice → Voice
after_phase Attack t s w = after_attack t s w
after_phase Decay t s w = after_decay t s w
after_phase Sustain t s w = after_sustain t s w
after_phase Release t s w = w

abbrev pub is_released : Phase → Bool
is_released Attack = false
is_released Decay = false
is_released Sustain = false
is_released Release = true

-- THE ENVELOPE AFTER SAMPLE s: release falls by 8 each sample; ADSR1 bit 7 chooses between the phases and GAIN
unfoldable pub after_envelope : Setting → ℕ → Voice → Voice
after_envelope t s w =
    if is_released w.phase then record w { envelope = w.envelope - 8 }
    else (if bit t.adsr1 7 then after_phase w.phase t s w
    else after_gain t s w)
