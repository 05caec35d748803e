-- Two machines that have reached the end stamp stand where the serial run ends, and neither is ahead of it.
use Rattle.std.proofs.Common.{◌≡◌, ℕ, zero, suc, ◌≤◌, List, ap, sym, ◌∙◌, subst, arith}
use Rattle.side_law.specs.Moves.{Moves}
use Rattle.side_law.specs.Serial.{SerialState, serial_of}
use Rattle.side_law.specs.SerialRun.{IsPast, RunsFor, after_turns}
use Rattle.serial_console.specs.Joined.{Joined}
use Rattle.serial_console.specs.Serial.{IsAt}
use Rattle.serial_console.specs.Lead.{QuietSteps, IsLead, IsLed}
use Rattle.serial_console.proofs.Lead.{IsSettled, console_next, sound_next, settled}
use Rattle.run_drive.specs.Ended.{HasEnded}

-- no quiet step begins at the end
none_ahead : {State : Type 0} (moves : Moves State) (end n : ℕ) (m k : State) (bytes : List ℕ) → QuietSteps moves end n m k bytes → end ≤ moves.stamp m → m ≡ k
none_ahead moves end zero m k bytes (same, none) past = same
none_ahead moves end (suc n) m k bytes (quiet, before, up, rest) past = absurd (omega arith)

module _ {C S : Type 0} (cm : Moves C) (sm : Moves S) (end : ℕ) (from : SerialState C S) where
  -- a run has so many turns, and ends in this state
  pub record EndsIn (at : SerialState C S) : Type 0 where
    pub turns : ℕ
    pub runs : RunsFor cm sm from end turns
    pub ends : after_turns cm sm from turns ≡ at

  -- one state by its parts
  alike : (w at : SerialState C S) → w.console ≡ at.console → w.sound ≡ at.sound → w.to_sound ≡ at.to_sound → w.to_console ≡ at.to_console → w ≡ at
  alike w at console sound to_sound to_console =
      ap (λ c. record { console = c; sound = w.sound; to_sound = w.to_sound; to_console = w.to_console }) console
      ∙ ap (λ s. record { console = at.console; sound = s; to_sound = w.to_sound; to_console = w.to_console }) sound
      ∙ ap (λ b. record { console = at.console; sound = at.sound; to_sound = b; to_console = w.to_console }) to_sound
      ∙ ap (λ b. record { console = at.console; sound = at.sound; to_sound = at.to_sound; to_console = b }) to_console

  pub lead_ends : (at : SerialState C S) (video audio : List ℕ) → IsLead cm sm end from at video audio → IsPast cm sm end at → EndsIn at
  lead_ends at video audio lead past = go (settled cm sm end from at video audio lead)
    where
      over : (h : IsLead cm sm end from at video audio) → h.turned.console ≡ at.console → h.turned.sound ≡ at.sound → EndsIn at
      over h console sound =
          let same = alike h.turned at console sound h.to_sound h.to_console in
          let there = h.underway.now_is ∙ same in
          record {
            turns = h.underway.turns;
            runs = record { past = subst (IsPast cm sm end) (sym there) past; first = h.underway.not_past };
            ends = there;
          }

      go : IsSettled cm sm end from at video audio → EndsIn at
      go (console_next h e le same none) =
          let is : cm.stamp h.turned.console ≡ cm.stamp at.console = ap cm.stamp same in
          over h same (none_ahead sm end h.sound.steps h.turned.sound at.sound h.early_audio h.sound.quiet (omega (arith, is, le, past.console)))
      go (sound_next h e lt same none) =
          let is : sm.stamp h.turned.sound ≡ sm.stamp at.sound = ap sm.stamp same in
          over h (none_ahead cm end h.console.steps h.turned.console at.console h.early_video h.console.quiet (omega (arith, is, lt, past.sound))) same

module _ {C S CState SState : Type 0} (console_moves : Moves CState) (sound_moves : Moves SState) (console_stands : C → CState → Type 0) (sound_stands : S → SState → Type 0)
    (end : ℕ) (c : CState) (s : SState) where
  -- a run that has come to its end
  pub run_has_ended : (console_stamp : C → ℕ) (sound_stamp : S → ℕ)
      → ((x : C) (m : CState) → console_stands x m → console_moves.stamp m ≡ console_stamp x)
      → ((x : S) (m : SState) → sound_stands x m → sound_moves.stamp m ≡ sound_stamp x)
      → (serial : Joined C S) (video audio : List ℕ) → IsLed console_moves sound_moves console_stands sound_stands end (serial_of c s) serial video audio
      → (end ≤ console_stamp serial.console) → (end ≤ sound_stamp serial.sound)
      → HasEnded console_moves sound_moves console_stands sound_stands c s end serial
  run_has_ended console_stamp sound_stamp console_law sound_law serial video audio led console sound =
      let at = led.at in
      let is = console_law serial.console at.console led.stands.console in
      let other = sound_law serial.sound at.sound led.stands.sound in
      let ends = lead_ends console_moves sound_moves end (serial_of c s) at _ _ led.lead (record { console = omega (arith, is, console); sound = omega (arith, other, sound) }) in
      record {
        turns = ends.turns;
        runs = ends.runs;
        stands = subst (IsAt console_stands sound_stands serial) (sym ends.ends) led.stands;
      }
