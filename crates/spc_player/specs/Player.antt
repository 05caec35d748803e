-- What contracts see of a player, and what a sink took of what it emits.
use Rattle.std.specs.Prelude.{◌≡◌, ℕ, List}
use Rattle.run_drive.specs.Run.{Adds, AddsSome}
use Rattle.audio_side.specs.Clock.{stamp_now}
use Rattle.audio_side.specs.Sound.{AudioValue, StandsAt}
use Rattle.spc_player.specs.Play.{Playing, AreFirstPairs, after_steps, steps_of}

pub record PlayerValue : Type 0 where
  pub side : AudioValue
  pub ports : List ℕ

-- a sound side and the bytes at its incoming ports
abbrev pub at : AudioValue → List ℕ → PlayerValue
at side ports = record { side = side; ports = ports }

-- the player plays, and stands there
pub record IsPlaying (p : PlayerValue) (w : Playing) : Type 0 where
  pub sound : StandsAt p.side w.sound
  pub ports : p.ports ≡ w.ports

-- it stands so many samples further
abbrev pub HasGoneOn : PlayerValue → Playing → ℕ → Type 0
HasGoneOn p w samples = IsPlaying p (after_steps w (steps_of w samples))

-- the stamp of its next step
abbrev pub stamp_of : PlayerValue → ℕ
stamp_of p = stamp_now p.side.clock

-- the emitted bytes that wait in it, the first one first
abbrev pub waiting_of : PlayerValue → List ℕ
waiting_of p = p.side.waiting

module _ (w : Playing) (pairs : ℕ) (before after : List ℕ → Type 0) where
  -- exactly the first pairs were taken, after what was held before
  pub record TookPairs : Type 0 where
    pub bytes : List ℕ
    pub first : AreFirstPairs w pairs bytes
    pub taken : Adds before after bytes

  -- the first bytes of the first pairs were taken: all, some or none
  pub record TookSome : Type 0 where
    pub bytes : List ℕ
    pub first : AreFirstPairs w pairs bytes
    pub taken : AddsSome before after bytes
