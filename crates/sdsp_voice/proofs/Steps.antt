use Rattle.std.proofs.Common.{◌≡◌, ℕ, pos, ◌+◌, List, slice_index_or, slice_set, refl, add-one}
use Rattle.sdsp_voice.specs.Brr.{decoded, decoded_times}
use Rattle.sdsp_voice.specs.Registers.{resting_voice, setting}
use Rattle.sdsp_voice.specs.Keys.{after_keys, keyed, keyed_below, key_taken}
use Rattle.sdsp_voice.specs.Noise.{after_noise}
use Rattle.sdsp_voice.specs.Sample.{Pass, cut, cut_below, turn, turns, no_sums}
use Rattle.sdsp_voice.specs.declared.voice.Voice.{Voice}
use Rattle.sdsp_voice.specs.declared.voices.Voices.{Voices}

-- no sample decoded, and one more than n
pub no_sample : (ram : List ℕ) (entry : ℕ) (w : Voice) → decoded_times ram entry 0 w ≡ w
unfolding decoded_times
no_sample ram entry w = refl

pub one_more_sample : (ram : List ℕ) (entry n : ℕ) (w : Voice) → decoded_times ram entry (n + 1) w ≡ decoded ram entry (decoded_times ram entry n w)
unfolding decoded_times
one_more_sample ram entry n w = rw add-one refl

-- no voice's keys, and those of one more than n
pub no_key : (ram : List ℕ) (d : Voices) (off on : ℕ) → keyed_below ram d off on 0 ≡ d.voices
unfolding keyed_below
no_key ram d off on = refl

pub one_more_key : (ram : List ℕ) (d : Voices) (off on n : ℕ) → keyed_below ram d off on (n + 1) ≡ key_taken ram d off on n (keyed_below ram d off on n)
unfolding keyed_below
one_more_key ram d off on n = rw add-one refl

-- a voice's keys don't look at the other voices
pub key_of_same : (ram : List ℕ) (d : Voices) (xs : List Voice) (off on v : ℕ) (ys : List Voice) → key_taken ram (record d { voices = xs }) off on v ys ≡ key_taken ram d off on v ys
unfolding keyed setting
key_of_same ram d xs off on v ys = refl

-- no voice's turn, and that of one more than n
pub no_turn : (ram table : List ℕ) (s : ℕ) (d : Voices) → turns ram table s d 0 ≡ record { voices = d.voices; sums = no_sums; before = pos 0 }
unfolding turns
no_turn ram table s d = refl

pub one_more_turn : (ram table : List ℕ) (s : ℕ) (d : Voices) (n : ℕ) → turns ram table s d (n + 1) ≡ turn ram table s d n (turns ram table s d n)
unfolding turns
one_more_turn ram table s d n = rw add-one refl

-- a turn looks at its own list of voices alone
pub turn_of_same : (ram table : List ℕ) (s : ℕ) (d : Voices) (xs : List Voice) (v : ℕ) (p : Pass) → turn ram table s (record d { voices = xs }) v p ≡ turn ram table s d v p
unfolding turn setting
turn_of_same ram table s d xs v p = refl

-- no voice cut, and one more than n
pub no_cut : (ram : List ℕ) (xs : List Voice) → cut_below ram xs 0 ≡ xs
unfolding cut_below
no_cut ram xs = refl

pub one_more_cut : (ram : List ℕ) (xs : List Voice) (n : ℕ) → cut_below ram xs (n + 1) ≡ slice_set (cut_below ram xs n) n (cut ram (slice_index_or (cut_below ram xs n) n resting_voice))
unfolding cut_below
one_more_cut ram xs n = rw add-one refl

-- keys and noise leave the profile
pub profile_stays : (ram : List ℕ) (s : ℕ) (d : Voices) → (after_noise s (after_keys ram s d)).profile ≡ d.profile
unfolding after_noise after_keys
profile_stays ram s d = refl
