-- The S-DSP's registers 00 to 7F as bytes, and what a voice takes from them (nocash fullsnes, "SNES APU DSP").
use Rattle.std.specs.Prelude.{ℕ, pos, Bool, false, not, ◌+◌, ◌*◌, ◌/◌, ◌%◌, ◌^◌, ◌==◌, ◌&&◌, List, [], ◌∷◌, replicate, slice_index, slice_index_or, slice_set, bit_or, if◌then◌else◌}
use Rattle.snes_defs.specs.declared.profile.Profile.{Profile}
use Rattle.snes_defs.specs.declared.profile.Profile.TheVariants.{First, Second}
use Rattle.sdsp_voice.specs.Signed.{signed_byte}
use Rattle.sdsp_voice.specs.declared.voice.Phase.TheVariants.{Release}
use Rattle.sdsp_voice.specs.declared.voice.Voice.{Voice}
use Rattle.sdsp_voice.specs.declared.setting.Setting.{Setting}
use Rattle.sdsp_voice.specs.declared.voices.Voices.{Voices}

-- bit k of a byte
abbrev pub bit : ℕ → ℕ → Bool
bit byte k = byte / 2 ^ k % 2 == 1

-- a voice that was never started: in release, silent, before the first sample of a block at address 0
abbrev pub resting_voice : Voice
resting_voice = record { phase = Release; envelope = 0; position = 0; oldest = pos 0; older = pos 0; newer = pos 0; newest = pos 0; address = 0; place = 0; ended = false; envx = 0; outx = 0 }

-- the byte that a register keeps
abbrev pub kept : Voices → ℕ → ℕ
kept d reg = slice_index d.registers reg

abbrev pub voice : Voices → ℕ → Voice
voice d v = slice_index_or d.voices v resting_voice

-- 7C ENDX: bit v is set where voice v has come to the end of a block with the end bit
abbrev pub ended_bit : Voices → ℕ → ℕ
ended_bit d v = if (voice d v).ended then 2 ^ v else 0

abbrev pub ended_bits : Voices → ℕ
ended_bits d = ended_bit d 0 + ended_bit d 1 + ended_bit d 2 + ended_bit d 3 + ended_bit d 4 + ended_bit d 5 + ended_bit d 6 + ended_bit d 7

-- A READ: ENDX (7C), ENVX (v8) and OUTX (v9) show the voices, each other register its byte
unfoldable pub read : Voices → ℕ → ℕ
read d reg =
    if reg == 0x7C then ended_bits d
    else (if reg % 16 == 8 then (voice d (reg / 16)).envx
    else (if reg % 16 == 9 then (voice d (reg / 16)).outx
    else kept d reg))

-- a voice whose ENDX bit was cleared
abbrev pub unended : Voices → ℕ → Voice
unended d v = record (voice d v) { ended = false }

abbrev pub all_unended : Voices → List Voice
all_unended d = unended d 0 ∷ unended d 1 ∷ unended d 2 ∷ unended d 3 ∷ unended d 4 ∷ unended d 5 ∷ unended d 6 ∷ unended d 7 ∷ []

-- the notes after a byte was written to KON: the first profile adds its bits, in the second it replaces what there was
-- (anomie's S-DSP document)
abbrev pub noted : Profile → ℕ → ℕ → ℕ
noted First notes byte = bit_or notes byte
noted Second notes byte = byte

-- A WRITE: KON (4C) also notes the voices, for the next sample that looks at them; one of ENDX clears it, whatever the
-- byte; ENVX and OUTX keep theirs until the next sample
unfoldable pub written : Voices → ℕ → ℕ → Voices
written d reg byte =
    if reg == 0x7C then record d { voices = all_unended d }
    else (if reg % 16 == 8 then record d { voices = slice_set d.voices (reg / 16) (record (voice d (reg / 16)) { envx = byte }) }
    else (if reg % 16 == 9 then record d { voices = slice_set d.voices (reg / 16) (record (voice d (reg / 16)) { outx = byte }) }
    else (if reg == 0x4C then record d { registers = slice_set d.registers reg byte; notes = noted d.profile d.notes byte }
    else record d { registers = slice_set d.registers reg byte })))

-- what voice v takes from its registers v0 to v7 and from the bits that the voices share
unfoldable pub setting : Voices → ℕ → Setting
setting d v =
    record {
      -- v0 VOLL, v1 VOLR
      left = signed_byte (kept d (16 * v));
      right = signed_byte (kept d (16 * v + 1));
      -- v2, v3 P: 14 bits
      pitch = kept d (16 * v + 2) + 256 * (kept d (16 * v + 3) % 64);
      -- v4 SRCN, and 5D DIR: where the directory has the source's two words
      entry = (256 * kept d 0x5D + 4 * kept d (16 * v + 4)) % 65536;
      -- v5 ADSR1, v6 ADSR2, v7 GAIN
      adsr1 = kept d (16 * v + 5);
      adsr2 = kept d (16 * v + 6);
      gain = kept d (16 * v + 7);
      -- 2D PMON (not of voice 0), 3D NON, 4D EON
      modulated = bit (kept d 0x2D) v && not (v == 0);
      noisy = bit (kept d 0x3D) v;
      echoed = bit (kept d 0x4D) v;
    }

-- AFTER POWER ON: all bytes 0, but for 6C FLG, which is E0; the noise generator starts at 4000
unfoldable pub at_power_on : Profile → Voices
at_power_on profile' =
    record {
      registers = slice_set (replicate 128 0) 0x6C 0xE0;
      voices = replicate 8 resting_voice;
      noise = 0x4000;
      notes = 0;
      profile = profile';
    }

-- AFTER A RESET: FLG is E0 again and the notes of KON are dropped; all else stays
unfoldable pub at_reset : Voices → Voices
at_reset d = record d { registers = slice_set d.registers 0x6C 0xE0; notes = 0 }
