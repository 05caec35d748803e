-- Turns of two workers, one after another. This project's own profile.
use Rattle.std.specs.Prelude.{◌≡◌, ℕ, zero, suc, ◌+◌, ◌<◌, ◌≤◌, List}
use Rattle.snes_defs.specs.declared.ports.Side.{Side}
use Rattle.snes_defs.specs.declared.ports.Side.TheVariants.{Console, Sound}
use Rattle.side_law.specs.Moves.{Moves}
use Rattle.commute_laws.specs.History.{History, history_of}
use Rattle.pair_run.specs.declared.stepped.Stepped.{Stepped}
use Rattle.pair_run.specs.Turn.{AreLegs, IsStepped}

module _ {C S : Type 0} (console_moves : Moves C) (sound_moves : Moves S) where
  -- one turn: two legs to a near end, then the caller's step, by which at least one step was made
  pub record IsTurn (c : History C) (s : History S) (after_c : History C) (after_s : History S) : Type 0 where
    pub near : ℕ
    pub leg_c : History C
    pub leg_s : History S
    pub legs : AreLegs console_moves sound_moves near c leg_c s leg_s
    pub stepped : Stepped
    pub stepped_is : IsStepped console_moves sound_moves near stepped leg_c leg_s after_c after_s
    pub further : c.steps + s.steps < after_c.steps + after_s.steps

  -- so many turns have led from the start to a pair
  abbrev pub CameByTurns : C → S → ℕ → History C → History S → Type 0
  CameByTurns c0 s0 zero c s = (c ≡ history_of c0) × (s ≡ history_of s0)
  CameByTurns c0 s0 (suc n) c s =
      (before_c : History C) × (before_s : History S) × CameByTurns c0 s0 n before_c before_s × IsTurn before_c before_s c s

  -- just so many turns have led from the start to a pair at the end, and the bytes that it emitted are held
  pub record HasMadeTurns (console_start : C) (sound_start : S) (end turns : ℕ) (holds : Side → List ℕ → Type 0) : Type 0 where
    pub c : History C
    pub s : History S
    pub came : CameByTurns console_start sound_start turns c s
    pub console_done : end ≤ console_moves.stamp c.now
    pub sound_done : end ≤ sound_moves.stamp s.now
    pub video_held : holds Console c.emitted
    pub audio_held : holds Sound s.emitted
