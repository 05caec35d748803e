-- All nine parts at the full level are what the sound side emits.
use Rattle.std.proofs.Common.{◌≡◌, ◌∙◌, ℕ, ℤ, zero, suc, ◌-◌, ◌%◌, ◌<◌, ◌++◌, List, arith, refl, ap, sym}
use Rattle.std.specs.Int.{w16, cast_unsigned}
use Rattle.std.proofs.lemmas.Int.{clamps, ints}
use Rattle.sdsp_voice.specs.Signed.{clamped_16}
use Rattle.sdsp_voice.specs.Registers.{bit, kept}
use Rattle.sdsp_voice.specs.declared.voices.Voices.{Voices}
use Rattle.sdsp_echo.specs.Echo.{heard_out, left_out, right_out}
use Rattle.audio_side.specs.Effect.{emitted, sample_bytes}
use Rattle.audio_side.specs.HardwareState.{HardwareState}
use Rattle.audio_side.specs.Sound.{SoundState, hardware_before_end}
use Rattle.audio_side.specs.SoundLaws.{by_test}
use Rattle.audio_side.specs.Stem.{silenced, silenced_below, stem_emitted, stem_voices}
use Rattle.spc_player.specs.Apart.{stem_sample}
use Rattle.spc_player.specs.Play.{Playing, after_steps, output, step_emits, steps_of, to_sample}
use Rattle.spc_player.proofs.StemSteps.{before}
use Rattle.spc_player.proofs.Pairs.{one_more}
use Rattle.spc_player.proofs.Steps.{cycle_after, cycle_of, silent}
use Rattle.stem_player.specs.Heard.{at_level, heard_pairs, heard_sample, level}
use Rattle.stem_player.specs.declared.heard.Heard.{Heard}
use Rattle.sound_laws.proofs.Levels.{full_level}

-- all nine parts, without a fade
abbrev pub all : Heard
all = record { stem = 511; fade = 0 }

all_voices : (d : Voices) → stem_voices 511 d ≡ d
unfolding stem_voices silenced_below silenced
all_voices d = refl

all_emitted : (m : SoundState) → stem_emitted 511 m ≡ emitted m.clock.cycle (hardware_before_end m)
all_emitted m =
    let b = hardware_before_end m in
    ap (λ (d : Voices). emitted m.clock.cycle (record b { voices = d })) (all_voices b.voices)

-- a number that is heard has 16 bits
clamped_small : (z : ℤ) → cast_unsigned w16 (clamped_16 z) < 65536
unfolding clamped_16
clamped_small z = grind (arith, ints, clamps)

heard_small : (d : Voices) (sum : ℤ) (main : ℕ) (filter : ℤ) (volume : ℕ) → cast_unsigned w16 (heard_out d sum main filter volume) < 65536
unfolding heard_out
heard_small d sum main filter volume =
    by_test (bit (kept d 0x6C) 6) (λ e. rw e (omega arith)) (λ e. rw e (clamped_small _))

-- a sample at the full level
full_sample : (n : ℕ) (b : HardwareState) → n % 32 ≡ 31 → at_level 65536 (emitted n b) ≡ emitted n b
unfolding emitted sample_bytes left_out right_out
full_sample n b is = rw is (full_level _ _ (heard_small _ _ _ _ _) (heard_small _ _ _ _ _))

no_fade : (left : ℕ) → level 0 left ≡ 65536
unfolding level
no_fade left = grind arith

-- the steps to the next sample emit what the last of them does
one_output : (w : Playing) → output w (to_sample w) ≡ step_emits (after_steps w (before w))
one_output w =
    let e : to_sample w ≡ suc (before w) = omega arith in
    ap (output w) e ∙ ap (λ (l : List ℕ). l ++ step_emits (after_steps w (before w))) (silent w (before w) (omega arith))

sample_is : (w : Playing) (left : ℕ) → heard_sample all w left ≡ output w (to_sample w)
sample_is w left =
    let v = after_steps w (before w) in
    let last : cycle_of v % 32 ≡ 31 = omega (arith, cycle_after w (before w)) in
    ap (λ (n : ℕ). at_level n (stem_sample 511 w)) (no_fade left) ∙ ap (at_level 65536) (all_emitted v.sound)
    ∙ full_sample (cycle_of v) (hardware_before_end v.sound) last ∙ sym (one_output w)

pub whole : (w : Playing) (n k : ℕ) → heard_pairs all w n k ≡ output w (steps_of w k)
unfolding heard_pairs steps_of
whole w n zero = refl
whole w n (suc k) =
    let v = after_steps w (steps_of w k) in
    ap (λ (l : List ℕ). heard_pairs all w n k ++ l) (sample_is v (n - k)) ∙ ap (λ (l : List ℕ). l ++ output v (to_sample v)) (whole w n k)
    ∙ sym (one_more w k)
