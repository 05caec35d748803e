-- What contracts see of a serial console: its two machines, and the serial machine that it is.
use Rattle.std.specs.Prelude.{◌≡◌, ℕ, nat_le, if◌then◌else◌}
use Rattle.std.specs.Borrow.{RattleType, MutBor, Fml, Lends}
use Rattle.snes_defs.specs.declared.ports.Side.{Side}
use Rattle.snes_defs.specs.declared.ports.Side.TheVariants.{Console, Sound}
use Rattle.side_law.specs.Serial.{SerialState}
use Rattle.serial_console.specs.Joined.{Joined}
use Rattle.serial_console.specs.contracts.serial.Serial.{the_row}

module _ {C S : Type 0} where
  abbrev pub console_of : Joined C S → C
  console_of s = s.console

  abbrev pub sound_of : Joined C S → S
  sound_of s = s.sound

-- the console is a serial machine in this state, where `console_stands` and `sound_stands` relate
-- each machine to its states
pub record IsAt {C S CState SState : Type 0} (console_stands : C → CState → Type 0)
    (sound_stands : S → SState → Type 0) (s : Joined C S) (w : SerialState CState SState) : Type 0 where
  pub console : console_stands s.console w.console
  pub sound : sound_stands s.sound w.sound
  pub to_sound : s.to_sound ≡ w.to_sound
  pub to_console : s.to_console ≡ w.to_console

-- the side that makes the next step, by the two stamps
abbrev pub earlier_side : ℕ → ℕ → Side
earlier_side console sound = if nat_le console sound then Console else Sound

module _ (C S : RattleType) where
  -- the console machine is what was left behind the reference, and all else stays
  abbrev pub LendsConsole : MutBor (Joined C.Denot S.Denot) → MutBor C.Denot → Fml
  LendsConsole s r = Lends (the_row C S) C s r (λ c. record s.now { console = c })

  -- the sound machine is what was left behind the reference, and all else stays
  abbrev pub LendsSound : MutBor (Joined C.Denot S.Denot) → MutBor S.Denot → Fml
  LendsSound s r = Lends (the_row C S) S s r (λ m. record s.now { sound = m })
