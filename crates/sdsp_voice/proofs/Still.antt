use Rattle.std.proofs.Common.{◌≡◌, ℕ, pos, zero, suc, Bool, ◌<◌, ◌∙◌, List, refl, sym, ap, arith, if◌then◌else◌}
use Rattle.std.proofs.lemmas.List.{set-get_or}
use Rattle.sdsp_voice.specs.Registers.{bit, kept, resting_voice, setting, voice}
use Rattle.snes_defs.specs.declared.profile.Profile.{Profile}
use Rattle.snes_defs.specs.declared.profile.Profile.TheVariants.{First, Second}
use Rattle.sdsp_voice.specs.Keys.{after_keys, keyed, keyed_below, keyed_off, looks, muted}
use Rattle.sdsp_voice.specs.Noise.{after_noise}
use Rattle.sdsp_voice.specs.Sample.{Pass, after_sample, after_turns, cut, cut_below, is_in_last_block, no_sums, pass, prepared, sums_of, turns, IsStill}
use Rattle.sdsp_voice.specs.declared.voice.Phase.TheVariants.{Release}
use Rattle.sdsp_voice.specs.declared.voice.Voice.{Voice}
use Rattle.sdsp_voice.specs.declared.voices.Voices.{Voices}
use Rattle.sdsp_voice.proofs.Quiet.{bit-zero, both_ways, turn_at_rest}

-- a voice that is silent and released stays so where FLG mutes it, and where KOFF releases it
muted_stays : (w : Voice) → w.phase ≡ Release → w.envelope ≡ 0 → muted w ≡ w
muted_stays w released none =
    ap (λ p. record w { phase = p; envelope = 0 }) (sym released) ∙ ap (λ (x : ℕ). record w { envelope = x }) (sym none)

released_stays : (w : Voice) → w.phase ≡ Release → keyed_off w ≡ w
released_stays w released = ap (λ p. record w { phase = p }) (sym released)

-- the keys leave a silent and released voice as it is, where none is noted
keyed_still : (ram : List ℕ) (d : Voices) (off v : ℕ) (w : Voice) → w.phase ≡ Release → w.envelope ≡ 0 → keyed ram d off 0 v w ≡ w
unfolding keyed
keyed_still ram d off v w released none =
    let quiet : Voice = (if bit (kept d 0x6C) 7 then muted w else w) in
    let q : quiet ≡ w = both_ways (bit (kept d 0x6C) 7) (muted w) w w (muted_stays w released none) refl in
    rw (bit-zero v) (both_ways (bit off v) (keyed_off quiet) quiet w (ap keyed_off q ∙ released_stays w released) q)

-- the first n voices
keys_still : (ram : List ℕ) (d : Voices) (off n : ℕ) → ((v : ℕ) → v < n → IsStill d v) → keyed_below ram d off 0 n ≡ d.voices
unfolding keyed_below
keys_still ram d off zero still = refl
keys_still ram d off (suc n) still =
    let h : IsStill d n = still n (omega arith) in
    let ih : keyed_below ram d off 0 n ≡ d.voices = keys_still ram d off n (λ v below. still v (omega arith)) in
    rw (ih, keyed_still ram d off n (voice d n) h.rests.released h.rests.silent) (set-get_or d.voices n _)

-- what a voice at rest shows is what it shows already
shows_same : (d : Voices) (v : ℕ) → IsStill d v → record (voice d v) { envx = 0; outx = 0 } ≡ voice d v
shows_same d v h =
    ap (λ (x : ℕ). record (voice d v) { envx = x; outx = 0 }) (sym h.no_level) ∙ ap (λ (x : ℕ). record (voice d v) { outx = x }) (sym h.no_output)

-- the turns of still voices
turns_still : (ram table : List ℕ) (s : ℕ) (d : Voices) (n : ℕ) → ((v : ℕ) → v < n → IsStill d v) → turns ram table s d n ≡ pass d no_sums (pos 0)
unfolding turns
turns_still ram table s d zero still = refl
turns_still ram table s d (suc n) still =
    let h : IsStill d n = still n (omega arith) in
    let ih : turns ram table s d n ≡ pass d no_sums (pos 0) = turns_still ram table s d n (λ v below. still v (omega arith)) in
    rw (ih, turn_at_rest ram table s d n no_sums (pos 0) h.rests (omega arith) (omega arith) (omega arith) (omega arith), shows_same d n h, set-get_or d.voices n resting_voice) refl

-- the noise generator is no voice's
still_under_noise : (s : ℕ) (d : Voices) (v : ℕ) → IsStill d v → IsStill (after_noise s d) v
unfolding after_noise setting
still_under_noise s d v h =
    record {
      rests = record { silent = h.rests.silent; released = h.rests.released; near = h.rests.near; still = h.rests.still };
      no_level = h.no_level;
      no_output = h.no_output;
    }

stay_by : (ram : List ℕ) (d : Voices) (off on left : ℕ) → ((v : ℕ) → v < 8 → IsStill d v) → on ≡ 0 → left ≡ d.notes → record d { voices = keyed_below ram d off on 8; notes = left } ≡ d
stay_by ram d off on left still no_on same = rw (no_on, same, keys_still ram d off 8 still) refl

keys_stay : (ram : List ℕ) (s : ℕ) (d : Voices) → ((v : ℕ) → v < 8 → IsStill d v) → d.notes ≡ 0 → after_keys ram s d ≡ d
unfolding after_keys
keys_stay ram s d still on =
    let seen : Bool = looks d.profile s in
    stay_by ram d _ _ _ still (both_ways seen d.notes 0 0 on refl) (both_ways seen 0 d.notes d.notes (sym on) refl)

-- a voice that is silent and released stays so at any block
cut_still : (ram : List ℕ) (w : Voice) → w.phase ≡ Release → w.envelope ≡ 0 → cut ram w ≡ w
unfolding cut
cut_still ram w released none = both_ways (is_in_last_block ram w) (muted w) w w (muted_stays w released none) refl

cuts_still : (ram : List ℕ) (d : Voices) (n : ℕ) → ((v : ℕ) → v < n → IsStill d v) → cut_below ram d.voices n ≡ d.voices
unfolding cut_below
cuts_still ram d zero still = refl
cuts_still ram d (suc n) still =
    let h : IsStill d n = still n (omega arith) in
    let ih : cut_below ram d.voices n ≡ d.voices = cuts_still ram d n (λ v below. still v (omega arith)) in
    rw (ih, cut_still ram (voice d n) h.rests.released h.rests.silent) (set-get_or d.voices n _)

ends_still : (profile : Profile) (ram : List ℕ) (d : Voices) → ((v : ℕ) → v < 8 → IsStill d v) → after_turns profile ram d.voices ≡ d.voices
unfolding after_turns
ends_still First ram d still = refl
ends_still Second ram d still = cuts_still ram d 8 still

prepared_still : (ram : List ℕ) (s : ℕ) (d : Voices) → ((v : ℕ) → v < 8 → IsStill d v) → d.notes ≡ 0 → prepared ram s d ≡ after_noise s d
unfolding prepared
prepared_still ram s d still on = ap (after_noise s) (keys_stay ram s d still on)

all_turns_still : (ram table : List ℕ) (s : ℕ) (d : Voices) → ((v : ℕ) → v < 8 → IsStill d v) → turns ram table s (after_noise s d) 8 ≡ pass (after_noise s d) no_sums (pos 0)
all_turns_still ram table s d still =
    turns_still ram table s (after_noise s d) 8 (λ v below. still_under_noise s d v (still v below))

voices_end : (ram : List ℕ) (s : ℕ) (d : Voices) → ((v : ℕ) → v < 8 → IsStill d v) → after_turns d.profile ram (after_noise s d).voices ≡ (after_noise s d).voices
voices_end ram s d still = ends_still d.profile ram (after_noise s d) (λ v below. still_under_noise s d v (still v below))

-- a sample of still voices moves the noise alone
pub voices_stay : (ram table : List ℕ) (s : ℕ) (d : Voices) → ((v : ℕ) → v < 8 → IsStill d v) → d.notes ≡ 0 → after_sample ram table s d ≡ after_noise s d
unfolding after_sample
voices_stay ram table s d still on =
    ap (λ (e : Voices). record e { voices = after_turns d.profile ram (turns ram table s e 8).voices }) (prepared_still ram s d still on)
    ∙ ap (λ (p : Pass). record (after_noise s d) { voices = after_turns d.profile ram p.voices }) (all_turns_still ram table s d still)
    ∙ ap (λ xs. record (after_noise s d) { voices = xs }) (voices_end ram s d still)

-- and adds up to nothing
pub no_sums_of_still : (ram table : List ℕ) (s : ℕ) (d : Voices) → ((v : ℕ) → v < 8 → IsStill d v) → d.notes ≡ 0 → sums_of ram table s d ≡ no_sums
unfolding sums_of
no_sums_of_still ram table s d still on =
    ap (λ (e : Voices). (turns ram table s e 8).sums) (prepared_still ram s d still on) ∙ ap (λ (p : Pass). p.sums) (all_turns_still ram table s d still)
