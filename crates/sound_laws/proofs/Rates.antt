-- Events by a rate come again after 30,720 samples, so a sample that much later makes the same.
use Rattle.std.proofs.Common.{◌≡◌, ℕ, Bool, zero, suc, ◌+◌, ◌*◌, ◌/◌, ◌%◌, ◌==◌, ◌<◌, not, ◌&&◌, ℤ, List, [], ◌∷◌, length, slice_index, refl, ap, sym, ◌∙◌, arith, if◌then◌else◌}
use Rattle.std.proofs.Math.Nat.{add-mul-mod_self_left, mul_assoc}
use Rattle.snes_defs.specs.declared.profile.Profile.{Profile}
use Rattle.snes_defs.specs.declared.profile.Profile.TheVariants.{First, Second}
use Rattle.sdsp_voice.specs.Envelope.{is_due, after_attack, after_decay, after_sustain, after_gain, after_phase, after_envelope}
use Rattle.sdsp_voice.specs.Noise.{after_noise}
use Rattle.sdsp_voice.specs.Keys.{after_keys, keyed_below, looks}
use Rattle.sdsp_voice.specs.Registers.{kept, setting}
use Rattle.sdsp_voice.specs.Sample.{Pass, gone_on, moved, pitch_of, shown, turn, turns, prepared, after_sample, after_turns, sums_of}
use Rattle.sdsp_voice.specs.declared.voice.Phase.{Phase}
use Rattle.sdsp_voice.specs.declared.voice.Phase.TheVariants.{Attack, Decay, Sustain, Release}
use Rattle.sdsp_voice.specs.declared.setting.Setting.{Setting}
use Rattle.sdsp_voice.specs.declared.voice.Voice.{Voice}
use Rattle.sdsp_voice.specs.declared.voices.Voices.{Voices}
use Rattle.audio_side.specs.HardwareState.{HardwareState}
use Rattle.audio_side.specs.Effect.{sampled, sample_bytes}

Divides : ℕ → Type 0
Divides p = (q : ℕ) × (p * q ≡ 30720)

AllDivide : List ℕ → Type 0
AllDivide [] = Unit {0}
AllDivide (p ∷ ps) = Divides p × AllDivide ps

divides_at : (ps : List ℕ) (i : ℕ) → AllDivide ps → i < length ps → Divides (slice_index ps i)
unfolding AllDivide
divides_at [] i h lt = absurd (omega (arith, lt))
divides_at (p ∷ ps) zero h lt = h.0
divides_at (p ∷ ps) (suc i) h lt = divides_at ps i h.1 (omega (arith, lt))

later_periods : List ℕ
later_periods = 2048 ∷ 1536 ∷ 1280 ∷ 1024 ∷ 768 ∷ 640 ∷ 512 ∷ 384 ∷ 320 ∷ 256 ∷ 192 ∷ 160 ∷ 128 ∷ 96 ∷ 80 ∷ 64 ∷ 48 ∷ 40 ∷ 32 ∷ 24 ∷ 20 ∷ 16 ∷ 12 ∷ 10 ∷ 8 ∷ 6 ∷ 5 ∷ 4 ∷ 3 ∷ 2 ∷ 1 ∷ []

all_divide : AllDivide later_periods
unfolding later_periods AllDivide Divides
all_divide = ((15, refl), ((20, refl), ((24, refl), ((30, refl), ((40, refl), ((48, refl), ((60, refl), ((80, refl), ((96, refl), ((120, refl), ((160, refl), ((192, refl), ((240, refl), ((320, refl), ((384, refl), ((480, refl), ((640, refl), ((768, refl), ((960, refl), ((1280, refl), ((1536, refl), ((1920, refl), ((2560, refl), ((3072, refl), ((3840, refl), ((5120, refl), ((6144, refl), ((7680, refl), ((10240, refl), ((15360, refl), ((30720, refl), tt)))))))))))))))))))))))))))))))

again : (p s k : ℕ) → Divides p → (s + 30720 * k) % p ≡ s % p
unfolding Divides
again p s k d =
    ap (λ (n : ℕ). (s + n * k) % p) (sym d.1) ∙ ap (λ (n : ℕ). (s + n) % p) (mul_assoc p d.0 k) ∙ add-mul-mod_self_left s p (d.0 * k)

pub due_again : (rate s k : ℕ) → rate < 32 → is_due rate (s + 30720 * k) ≡ is_due rate s
unfolding is_due later_periods
due_again zero s k lt = refl
due_again (suc i) s k lt =
    ap (λ (n : ℕ). not (suc i == 0) && (n == 0)) (again (slice_index later_periods i) s k (divides_at later_periods i all_divide (omega (arith, lt))))

module _ (s k : ℕ) where
  attack_again : (t : Setting) (w : Voice) → after_attack t (s + 30720 * k) w ≡ after_attack t s w
  unfolding after_attack
  attack_again t w = rw (due_again (2 * (t.adsr1 % 16) + 1) s k (omega arith)) refl

  decay_again : (t : Setting) (w : Voice) → after_decay t (s + 30720 * k) w ≡ after_decay t s w
  unfolding after_decay
  decay_again t w = rw (due_again (2 * (t.adsr1 / 16 % 8) + 16) s k (omega arith)) refl

  sustain_again : (t : Setting) (w : Voice) → after_sustain t (s + 30720 * k) w ≡ after_sustain t s w
  unfolding after_sustain
  sustain_again t w = rw (due_again (t.adsr2 % 32) s k (omega arith)) refl

  gain_again : (t : Setting) (w : Voice) → after_gain t (s + 30720 * k) w ≡ after_gain t s w
  unfolding after_gain
  gain_again t w = rw (due_again (t.gain % 32) s k (omega arith)) refl

  phase_again : (p : Phase) (t : Setting) (w : Voice) → after_phase p t (s + 30720 * k) w ≡ after_phase p t s w
  phase_again Attack t w = attack_again t w
  phase_again Decay t w = decay_again t w
  phase_again Sustain t w = sustain_again t w
  phase_again Release t w = refl

  envelope_again : (t : Setting) (w : Voice) → after_envelope t (s + 30720 * k) w ≡ after_envelope t s w
  unfolding after_envelope
  envelope_again t w = rw (phase_again w.phase t w, gain_again t w) refl

  voice_again : (ram : List ℕ) (t : Setting) (before out : ℤ) (w : Voice) → gone_on ram t (s + 30720 * k) before out w ≡ gone_on ram t s before out w
  unfolding gone_on
  voice_again ram t before out w = ap (moved ram t.entry (pitch_of t before)) (envelope_again t (shown out w))

  turn_again : (ram table : List ℕ) (d : Voices) (v : ℕ) (p : Pass) → turn ram table (s + 30720 * k) d v p ≡ turn ram table s d v p
  unfolding turn
  turn_again ram table d v p = rw (voice_again ram (setting d v) p.before _ _) refl

  turns_again : (ram table : List ℕ) (d : Voices) (n : ℕ) → turns ram table (s + 30720 * k) d n ≡ turns ram table s d n
  unfolding turns
  turns_again ram table d zero = refl
  turns_again ram table d (suc n) =
      turn_again ram table d n (turns ram table (s + 30720 * k) d n) ∙ ap (turn ram table s d n) (turns_again ram table d n)

  looks_again : (profile : Profile) → looks profile (s + 30720 * k) ≡ looks profile s
  unfolding Divides
  looks_again First = refl
  looks_again Second = ap (λ (n : ℕ). n == 0) (again 2 s k (15360, refl))

  keys_again : (ram : List ℕ) (d : Voices) → after_keys ram (s + 30720 * k) d ≡ after_keys ram s d
  unfolding after_keys
  keys_again ram d =
      ap (λ (seen : Bool). record d { voices = keyed_below ram d (if seen then kept d 0x5C else 0) (if seen then d.notes else 0) 8; notes = if seen then 0 else d.notes })
      (looks_again d.profile)

  noise_again : (d : Voices) → after_noise (s + 30720 * k) d ≡ after_noise s d
  unfolding after_noise
  noise_again d = rw (due_again (kept d 0x6C % 32) s k (omega arith)) refl

  prepared_again : (ram : List ℕ) (d : Voices) → prepared ram (s + 30720 * k) d ≡ prepared ram s d
  unfolding prepared
  prepared_again ram d = ap (after_noise (s + 30720 * k)) (keys_again ram d) ∙ noise_again (after_keys ram s d)

  voices_again : (ram table : List ℕ) (d : Voices) → after_sample ram table (s + 30720 * k) d ≡ after_sample ram table s d
  unfolding after_sample
  voices_again ram table d =
      ap (λ (x : Voices). record x { voices = after_turns d.profile ram (turns ram table (s + 30720 * k) x 8).voices }) (prepared_again ram d)
      ∙ ap (λ (q : Pass). record (prepared ram s d) { voices = after_turns d.profile ram q.voices }) (turns_again ram table (prepared ram s d) 8)

  sums_again : (ram table : List ℕ) (d : Voices) → sums_of ram table (s + 30720 * k) d ≡ sums_of ram table s d
  unfolding sums_of
  sums_again ram table d =
      ap (λ (x : Voices). (turns ram table (s + 30720 * k) x 8).sums) (prepared_again ram d)
      ∙ ap (λ (q : Pass). q.sums) (turns_again ram table (prepared ram s d) 8)

  pub sample_again : (b : HardwareState) → sampled (s + 30720 * k) b ≡ sampled s b
  unfolding sampled
  sample_again b = rw (voices_again b.ram b.table b.voices, sums_again b.ram b.table b.voices) refl

  pub bytes_again : (b : HardwareState) → sample_bytes (s + 30720 * k) b ≡ sample_bytes s b
  unfolding sample_bytes
  bytes_again b = rw (voices_again b.ram b.table b.voices, sums_again b.ram b.table b.voices) refl
