-- The end of a cycle that is no tick.
use Rattle.std.proofs.Common.{◌≡◌, ◌≢◌, ℕ, false, ◌+◌, ◌%◌, ◌==◌, ◌++◌, List, refl, arith, rules}
use Rattle.std.proofs.lemmas.Bool.{ne_eqb}
use Rattle.audio_side.specs.HardwareState.{HardwareState}
use Rattle.audio_side.specs.Timer.{ticked}
use Rattle.audio_side.specs.declared.timer.Timer.{Timer}
use Rattle.audio_side.specs.SoundLaws.{by_test}
use Rattle.audio_side.specs.Effect.{emitted, passed, timed}

-- nothing happens
pub passes_nothing : (n : ℕ) (b : HardwareState) → (n + 1) % 16 ≢ 0 → passed n b ≡ b
unfolding passed timed
passes_nothing n b none =
    let fast : ((n + 1) % 16 == 0) ≡ false = ne_eqb ((n + 1) % 16) 0 none in
    let slow : ((n + 1) % 128 == 0) ≡ false = ne_eqb ((n + 1) % 128) 0 (λ e. none (omega arith)) in
    let sample : (n % 32 == 31) ≡ false = ne_eqb (n % 32) 31 (λ e. none (omega arith)) in
    rw (fast, slow, sample) refl

-- and nothing is emitted
pub emits_nothing : (xs : List ℕ) (n : ℕ) (b : HardwareState) → (n + 1) % 16 ≢ 0 → xs ≡ xs ++ emitted n b
unfolding emitted
emits_nothing xs n b none =
    let sample : (n % 32 == 31) ≡ false = ne_eqb (n % 32) 31 (λ e. none (omega arith)) in
    rw sample (search rules)

-- a timer that is off doesn't tick
off_stays : (t : Timer) → t.on ≡ false → ticked t ≡ t
unfolding ticked
off_stays t off = rw off refl

-- with timer 2 off nothing happens at the ends of 31 cycles of 32
pub rests_nothing : (n : ℕ) (b : HardwareState) → b.timer2.on ≡ false → (n + 1) % 32 ≢ 0 → passed n b ≡ b
unfolding passed timed
rests_nothing n b off none =
    let slow : ((n + 1) % 128 == 0) ≡ false = ne_eqb ((n + 1) % 128) 0 (λ e. none (omega arith)) in
    let sample : (n % 32 == 31) ≡ false = ne_eqb (n % 32) 31 (λ e. none (omega arith)) in
    rw (slow, sample, off_stays b.timer2 off) (by_test ((n + 1) % 16 == 0) (λ e. rw e refl) (λ e. rw e refl))
