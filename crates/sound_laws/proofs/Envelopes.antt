use Rattle.std.proofs.Common.{◌≤◌, ℕ, arith}
use Rattle.sdsp_voice.specs.Envelope.{after_attack, after_decay, after_envelope, after_gain, after_phase, after_sustain}
use Rattle.sdsp_voice.specs.declared.voice.Phase.{Phase}
use Rattle.sdsp_voice.specs.declared.voice.Phase.TheVariants.{Attack, Decay, Sustain, Release}
use Rattle.sdsp_voice.specs.declared.setting.Setting.{Setting}
use Rattle.sdsp_voice.specs.declared.voice.Voice.{Voice}

attack_within : (t : Setting) (s : ℕ) (w : Voice) → w.envelope ≤ 2047 → (after_attack t s w).envelope ≤ 2047
unfolding after_attack
attack_within t s w h = grind arith

decay_within : (t : Setting) (s : ℕ) (w : Voice) → w.envelope ≤ 2047 → (after_decay t s w).envelope ≤ 2047
unfolding after_decay
decay_within t s w h = grind arith

sustain_within : (t : Setting) (s : ℕ) (w : Voice) → w.envelope ≤ 2047 → (after_sustain t s w).envelope ≤ 2047
unfolding after_sustain
sustain_within t s w h = grind arith

gain_within : (t : Setting) (s : ℕ) (w : Voice) → w.envelope ≤ 2047 → (after_gain t s w).envelope ≤ 2047
unfolding after_gain
gain_within t s w h = grind arith

phase_within : (p : Phase) (t : Setting) (s : ℕ) (w : Voice) → w.envelope ≤ 2047 → (after_phase p t s w).envelope ≤ 2047
phase_within Attack t s w h = attack_within t s w h
phase_within Decay t s w h = decay_within t s w h
phase_within Sustain t s w h = sustain_within t s w h
phase_within Release t s w h = h

pub after_envelope_within : (t : Setting) (s : ℕ) (w : Voice) → w.envelope ≤ 2047 → (after_envelope t s w).envelope ≤ 2047
unfolding after_envelope
after_envelope_within t s w h = grind (arith, phase_within w.phase t s w h, gain_within t s w h)
