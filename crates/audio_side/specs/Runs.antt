-- Many cycles in one call: accesses of the memory and internal cycles at whose ends neither timers nor a sample come,
-- and none of which is a reset.
use Rattle.std.specs.Prelude.{◌≡◌, ◌≢◌, ℕ, Bool, true, false, zero, suc, ◌+◌, ◌%◌, ◌<◌}
use Rattle.snes_defs.specs.declared.ports.Act.TheVariants.{Quiet}
use Rattle.spc700.specs.Instruction.{SpcState, moved_on, next_of}
use Rattle.spc700.specs.Stands.{Stands}
use Rattle.spc700.specs.declared.processor.Spc.{Spc}
use Rattle.audio_side.specs.Clock.{Clock, is_reset_due, stamp_now}
use Rattle.audio_side.specs.Effect.{act_of, effect, given}
use Rattle.audio_side.specs.HardwareState.{HardwareState}

-- ---- the clock

-- so many cycles later
abbrev pub later : ℕ → Clock → Clock
later n c = record c { cycle = c.cycle + n }

-- after how many cycles something may come: timer 2, where it is on, each 16 cycles, all else each 32
abbrev pub beat_of : Bool → ℕ
beat_of true = 16
beat_of false = 32

-- a cycle begun before a stamp is no reset, and nothing comes at its end
pub record IsFree (fast : Bool) (before : ℕ) (c : Clock) : Type 0 where
  pub no_reset : is_reset_due c ≡ false
  pub no_end : (c.cycle + 1) % beat_of fast ≢ 0
  pub early : stamp_now c < before

-- so many cycles from a clock's are free
abbrev pub AreFree : Bool → ℕ → ℕ → Clock → Type 0
AreFree fast before n c = (k : ℕ) → k < n → IsFree fast before (later k c)

-- none of the next 32 cycles is a reset
abbrev pub IsFarFromReset : Clock → Type 0
IsFarFromReset c = (k : ℕ) → k < 32 → is_reset_due (later k c) ≡ false

-- ---- the processor and the hardware

-- so many quiet accesses lead from a processor and its hardware to others, and leave timer 2 as it is
abbrev pub PlainAccesses : ℕ → SpcState → HardwareState → SpcState → HardwareState → Type 0
PlainAccesses zero s b to b' = (s ≡ to) × (b ≡ b')
PlainAccesses (suc n) s b to b' =
    (act_of (next_of s) ≡ Quiet) × ((effect b (next_of s)).timer2 ≡ b.timer2)
    × PlainAccesses n (moved_on s (given b (next_of s) 0)) (effect b (next_of s)) to b'

-- such accesses lead to what the processor now stands for, and to the hardware as it now is
pub record HasRun (spc : Spc) (b' : HardwareState) (s : SpcState) (b : HardwareState) (n : ℕ) : Type 0 where
  pub to : SpcState
  pub run : PlainAccesses n s b to b'
  pub stands : Stands spc to
