-- A run of the serial console: turn after turn, until both machines have come to the end stamp.
use Rattle.std.specs.Prelude.{◌≡◌, ℕ, suc, zero, ◌<◌, ◌≤◌, List, [], ◌++◌}
use Rattle.side_law.specs.Moves.{Moves}
use Rattle.side_law.specs.Serial.{SerialState, turn, console_emits, sound_emits}

module _ {C S : Type 0} (console_moves : Moves C) (sound_moves : Moves S) where
  -- the serial machine after so many turns
  abbrev pub after_turns : SerialState C S → ℕ → SerialState C S
  after_turns w zero = w
  after_turns w (suc n) = turn console_moves sound_moves (after_turns w n)

  -- the bytes that the console emits in so many turns, joined in order, and the sound side's
  abbrev pub console_output : SerialState C S → ℕ → List ℕ
  console_output w zero = []
  console_output w (suc n) =
      console_output w n ++ console_emits console_moves sound_moves (after_turns w n)

  abbrev pub sound_output : SerialState C S → ℕ → List ℕ
  sound_output w zero = []
  sound_output w (suc n) = sound_output w n ++ sound_emits console_moves sound_moves (after_turns w n)

  -- both machines have come to the end
  pub record IsPast (end : ℕ) (w : SerialState C S) : Type 0 where
    pub console : end ≤ console_moves.stamp w.console
    pub sound : end ≤ sound_moves.stamp w.sound

  -- the run from w to the end has so many turns: it is past the end then, and at no turn before
  pub record RunsFor (w : SerialState C S) (end n : ℕ) : Type 0 where
    pub past : IsPast end (after_turns w n)
    pub first : (k : ℕ) → k < n → ¬ IsPast end (after_turns w k)

  -- what the run from w to the end emits
  pub record IsOutput (w : SerialState C S) (end : ℕ) (video audio : List ℕ) : Type 0 where
    pub turns : ℕ
    pub runs : RunsFor w end turns
    pub video_is : console_output w turns ≡ video
    pub audio_is : sound_output w turns ≡ audio

  -- a run that has come to `now`, without having passed the end before, and what it has emitted
  pub record IsUnderway (w : SerialState C S) (end : ℕ) (now : SerialState C S) (video audio : List ℕ) : Type 0 where
    pub turns : ℕ
    pub now_is : after_turns w turns ≡ now
    pub not_past : (k : ℕ) → k < turns → ¬ IsPast end (after_turns w k)
    pub video_is : console_output w turns ≡ video
    pub audio_is : sound_output w turns ≡ audio
