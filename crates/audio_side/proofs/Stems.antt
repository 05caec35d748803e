-- A sample of a stem: it is made before the timers tick, and the machine's own one after it.
use Rattle.std.proofs.Common.{◌≡◌, ◌∙◌, ℕ, List, IsTrue, refl, sym, ap, subst}
use Rattle.spc700.specs.Instruction.{SpcState}
use Rattle.spc700.specs.Stands.{Stands}
use Rattle.audio_side.specs.Clock.{Clock}
use Rattle.audio_side.specs.Effect.{emitted, is_sampling, sample_bytes, timed}
use Rattle.audio_side.specs.HardwareState.{HardwareState}
use Rattle.audio_side.specs.Sound.{AudioValue, SoundState, StandsAt, hardware_before_end}
use Rattle.audio_side.specs.Stem.{stem_emitted, stem_hardware}
use Rattle.audio_side.proofs.Moves.{same_state}

-- the timers are for nothing in a sample
pub timed_sample : (s n : ℕ) (b : HardwareState) → sample_bytes s b ≡ sample_bytes s (timed n b)
unfolding sample_bytes timed
timed_sample s n b = refl

-- the bytes of a stem, by the processor that a value stands for
pub stem_is : (old : AudioValue) (bytes : List ℕ) (stem : ℕ) (m : SoundState) → StandsAt old m
    → ((s : SpcState) → Stands old.processor s → bytes ≡ emitted old.clock.cycle (stem_hardware stem (hardware_before_end (record { processor = s; hardware = old.hardware; clock = old.clock }))))
    → bytes ≡ stem_emitted stem m
stem_is old bytes stem m h b =
    subst (λ (n : SoundState). bytes ≡ emitted n.clock.cycle (stem_hardware stem (hardware_before_end n))) (same_state old m h) (b m.processor h.processor)

-- whether it makes a sample, by the number of its cycle
pub sampling_is : (old : AudioValue) (n : ℕ) (m : SoundState) → StandsAt old m → n ≡ old.clock.cycle → IsTrue (is_sampling m.clock.cycle) → IsTrue (is_sampling n)
sampling_is old n m h is = subst (λ (k : ℕ). IsTrue (is_sampling k)) (sym (is ∙ ap (λ (c : Clock). c.cycle) h.clock))
