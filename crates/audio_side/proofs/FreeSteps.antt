-- An access in a free cycle is a step of the sound side.
use Rattle.std.proofs.Common.{◌≡◌, ◌∙◌, ℕ, Bool, refl, ap}
use Rattle.spc700.specs.Instruction.{SpcState, moved_on, next_of}
use Rattle.audio_side.specs.HardwareState.{HardwareState}
use Rattle.audio_side.specs.Clock.{Clock, gone_on}
use Rattle.audio_side.specs.Effect.{act_of, effect, given, passed}
use Rattle.audio_side.specs.Runs.{IsFree}
use Rattle.audio_side.specs.Sound.{hardware_before_end, sound_act, sound_next}
use Rattle.audio_side.proofs.Moves.{not_reset_processor, not_reset_hardware, state_with}
use Rattle.audio_side.proofs.Runs.{ends_nothing}

-- the state after it
pub free_step : (fast : Bool) (before : ℕ) (s : SpcState) (b : HardwareState) (k : Clock) (got : ℕ) → (effect b (next_of s)).timer2.on ≡ fast → IsFree fast before k
    → sound_next (state_with s b k) got ≡ state_with (moved_on s (given b (next_of s) got)) (effect b (next_of s)) (gone_on k)
free_step fast before s b k got on free =
    let made : hardware_before_end (state_with s b k) ≡ effect b (next_of s) = not_reset_hardware s b k free.no_reset in
    ap (λ (p : SpcState). state_with p (passed k.cycle (hardware_before_end (state_with s b k))) (gone_on k)) (not_reset_processor s b k got free.no_reset)
    ∙ ap (λ (x : HardwareState). state_with (moved_on s (given b (next_of s) got)) x (gone_on k))
    (ap (passed k.cycle) made ∙ ends_nothing fast k.cycle (effect b (next_of s)) on free.no_end)

-- its act is that of the access
pub free_act : (fast : Bool) (before : ℕ) (s : SpcState) (b : HardwareState) (k : Clock) → IsFree fast before k → sound_act (state_with s b k) ≡ act_of (next_of s)
unfolding sound_act
free_act fast before s b k free = rw free.no_reset refl
