-- Two machines that have come to the end by leads are just where the serial run ends.
use Rattle.std.proofs.Common.{◌≡◌, ℕ, zero, suc, ◌≤◌, List, ◌++◌, ap, sym, ◌∙◌, subst, arith}
use Rattle.std.proofs.lemmas.List.{append-nil}
use Rattle.side_law.specs.Moves.{Moves}
use Rattle.side_law.specs.Serial.{SerialState}
use Rattle.side_law.specs.SerialRun.{IsPast, IsUnderway}
use Rattle.serial_console.specs.Lead.{QuietSteps, IsLead}
use Rattle.serial_console.proofs.Lead.{IsSettled, console_next, sound_next, settled, at_end}

module _ {C S : Type 0} (cm : Moves C) (sm : Moves S) (end : ℕ) (from : SerialState C S) where
  no_steps : {State : Type 0} (moves : Moves State) (n : ℕ) (m k : State) (bytes : List ℕ) → QuietSteps moves end n m k bytes → end ≤ moves.stamp m → m ≡ k
  no_steps moves zero m k bytes (same, none) past = same
  no_steps moves (suc n) m k bytes (quiet, before, up, rest) past = absurd (omega (arith, before, past))

  states : (a b : SerialState C S) → a.console ≡ b.console → a.sound ≡ b.sound → a.to_sound ≡ b.to_sound → a.to_console ≡ b.to_console → a ≡ b
  states a b c s t u =
      ap (λ x. record { console = x; sound = a.sound; to_sound = a.to_sound; to_console = a.to_console }) c
      ∙ ap (λ x. record { console = b.console; sound = x; to_sound = a.to_sound; to_console = a.to_console }) s
      ∙ ap (λ x. record { console = b.console; sound = b.sound; to_sound = x; to_console = a.to_console }) t
      ∙ ap (λ x. record { console = b.console; sound = b.sound; to_sound = b.to_sound; to_console = x }) u

  pub lead_arrives : (at : SerialState C S) (video audio : List ℕ) → IsLead cm sm end from at video audio → IsPast cm sm end at
      → IsUnderway cm sm from end at video audio
  lead_arrives at video audio lead past = go (settled cm sm end from at video audio lead)
    where
      over : (h : IsLead cm sm end from at video audio) → IsPast cm sm end h.turned → IsUnderway cm sm from end at video audio
      over h there =
          let console = no_steps cm h.console.steps h.turned.console at.console h.early_video h.console.quiet there.console in
          let sound = no_steps sm h.sound.steps h.turned.sound at.sound h.early_audio h.sound.quiet there.sound in
          let no_video = at_end cm sm end from cm h.console.steps h.turned.console at.console h.early_video h.console.quiet there.console in
          let no_audio = at_end cm sm end from sm h.sound.steps h.turned.sound at.sound h.early_audio h.sound.quiet there.sound in
          subst (λ x. IsUnderway cm sm from end x video audio) (states h.turned at console sound h.to_sound h.to_console)
          (subst (λ v. IsUnderway cm sm from end h.turned v audio) (sym (append-nil h.turned_video) ∙ ap (λ v. h.turned_video ++ v) (sym no_video) ∙ h.video_is)
          (subst (λ a. IsUnderway cm sm from end h.turned h.turned_video a) (sym (append-nil h.turned_audio) ∙ ap (λ a. h.turned_audio ++ a) (sym no_audio) ∙ h.audio_is) h.underway))

      go : IsSettled cm sm end from at video audio → IsUnderway cm sm from end at video audio
      go (console_next h e le same none) =
          let is : cm.stamp h.turned.console ≡ cm.stamp at.console = ap cm.stamp same in
          over h (record { console = omega (arith, is, past.console); sound = omega (arith, is, le, past.console) })
      go (sound_next h e lt same none) =
          let is : sm.stamp h.turned.sound ≡ sm.stamp at.sound = ap sm.stamp same in
          over h (record { console = omega (arith, is, lt, past.sound); sound = omega (arith, is, past.sound) })
