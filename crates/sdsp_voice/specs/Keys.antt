-- Keys on and off, which a sample looks at first (nocash fullsnes, "SNES APU DSP ADSR/Gain Envelope").
use Rattle.std.specs.Prelude.{ℕ, pos, Bool, true, false, zero, suc, ◌%◌, ◌==◌, List, slice_index_or, slice_set, if◌then◌else◌}
use Rattle.snes_defs.specs.declared.profile.Profile.{Profile}
use Rattle.snes_defs.specs.declared.profile.Profile.TheVariants.{First, Second}
use Rattle.sdsp_voice.specs.Brr.{word_at}
use Rattle.sdsp_voice.specs.Registers.{bit, kept, resting_voice, setting}
use Rattle.sdsp_voice.specs.declared.voice.Phase.TheVariants.{Attack, Release}
use Rattle.sdsp_voice.specs.declared.voice.Voice.{Voice}
use Rattle.sdsp_voice.specs.declared.voices.Voices.{Voices}

-- KEY ON: the voice begins anew at the source's first word
unfoldable pub started : List ℕ → ℕ → Voice → Voice
started ram entry w =
    record w { phase = Attack; envelope = 0; position = 0; oldest = pos 0; older = pos 0; newer = pos 0; newest = pos 0; address = word_at ram entry; place = 0; ended = false }

-- FLG (6C) bit 7: silent, and in release
abbrev pub muted : Voice → Voice
muted w = record w { phase = Release; envelope = 0 }

-- KOFF (5C): in release
abbrev pub keyed_off : Voice → Voice
keyed_off w = record w { phase = Release }

-- one voice: FLG bit 7, then the voices to release, then those to start
unfoldable pub keyed : List ℕ → Voices → ℕ → ℕ → ℕ → Voice → Voice
keyed ram d off on v w =
    let quiet = (if bit (kept d 0x6C) 7 then muted w else w) in
    if bit off v then keyed_off quiet
    else (if bit on v then started ram (setting d v).entry quiet else quiet)

-- voice v of the list
abbrev pub key_taken : List ℕ → Voices → ℕ → ℕ → ℕ → List Voice → List Voice
key_taken ram d off on v xs = slice_set xs v (keyed ram d off on v (slice_index_or xs v resting_voice))

-- the first n voices
unfoldable pub keyed_below : List ℕ → Voices → ℕ → ℕ → ℕ → List Voice
keyed_below ram d off on zero = d.voices
keyed_below ram d off on (suc n) = key_taken ram d off on n (keyed_below ram d off on n)

-- whether sample s looks at KOFF and at the notes of KON: each does in the first profile, the even ones in the second
-- (anomie's S-DSP document: every other sample)
abbrev pub looks : Profile → ℕ → Bool
looks First s = true
looks Second s = s % 2 == 0

-- ALL EIGHT VOICES IN SAMPLE s: where it looks, KOFF and the notes of KON count, and the notes are dropped
unfoldable pub after_keys : List ℕ → ℕ → Voices → Voices
after_keys ram s d =
    let seen = looks d.profile s in
    let off = (if seen then kept d 0x5C else 0) in
    let on = (if seen then d.notes else 0) in
    record d { voices = keyed_below ram d off on 8; notes = if seen then 0 else d.notes }
