-- Steps of two values of which each may be ahead of a serial console.
use Rattle.std.proofs.Common.{◌≡◌, ℕ, ◌≤◌, List, ◌++◌, refl, ap, ◌∙◌, subst, append_assoc, arith}
use Rattle.side_law.specs.Moves.{Moves}
use Rattle.side_law.specs.Serial.{SerialState}
use Rattle.side_law.specs.SerialRun.{IsOutput}
use Rattle.serial_console.specs.Joined.{Joined}
use Rattle.serial_console.specs.Lead.{IsLead, IsLed, HasLed}
use Rattle.serial_console.proofs.Lead.{lead_whole}
use Rattle.serial_console.proofs.SideRuns.{sound_leads}

module _ {C S CState SState : Type 0} (cm : Moves CState) (sm : Moves SState) (console_stands : C → CState → Type 0) (sound_stands : S → SState → Type 0)
    (console_stamp : C → ℕ) (sound_stamp : S → ℕ)
    (console_law : (x : C) (m : CState) → console_stands x m → cm.stamp m ≡ console_stamp x)
    (sound_law : (x : S) (m : SState) → sound_stands x m → sm.stamp m ≡ sound_stamp x)
    (end : ℕ) (from : SerialState CState SState) (s : Joined C S) (video audio : List ℕ) where
  -- the sound side has made its steps
  pub led_sound : (first : ℕ) (after : S) (waited waits incoming outgoing : List ℕ) → first ≤ console_stamp s.console
      → ((m : SState) → sound_stands s.sound m
      → HasLed sm first end (sound_stands after) waited waits incoming outgoing (record { own = m; incoming = s.to_sound; outgoing = s.to_console }))
      → IsLed cm sm console_stands sound_stands end from s video (audio ++ waited)
      → IsLed cm sm console_stands sound_stands end from (record { console = s.console; sound = after; to_sound = incoming; to_console = outgoing }) video (audio ++ waits)
  led_sound first after waited waits incoming outgoing up_to made led =
      let w = led.at in
      let run = subst (λ i. HasLed sm first end (sound_stands after) waited waits incoming outgoing (record { own = w.sound; incoming = i; outgoing = w.to_console })) led.stands.to_sound
      (subst (λ o. HasLed sm first end (sound_stands after) waited waits incoming outgoing (record { own = w.sound; incoming = s.to_sound; outgoing = o })) led.stands.to_console
      (made w.sound led.stands.sound)) in
      let then : SerialState CState SState = record { console = w.console; sound = run.to; to_sound = incoming; to_console = outgoing } in
      record {
        at = then;
        stands = record { console = led.stands.console; sound = run.now_stands; to_sound = refl; to_console = refl };
        lead = subst (λ a. IsLead cm sm end from then video a) (append_assoc audio waited run.emitted ∙ ap (λ a. audio ++ a) run.waits_is)
            (sound_leads cm sm first end from run.steps w (record { own = run.to; incoming = incoming; outgoing = outgoing }) video (audio ++ waited) run.emitted led.lead run.made
            (omega (arith, up_to, console_law s.console w.console led.stands.console)));
      }

  -- machines that stand at the end have made the run, and emitted its output
  pub led_whole : IsLed cm sm console_stands sound_stands end from s video audio → end ≤ console_stamp s.console → end ≤ sound_stamp s.sound
      → IsOutput cm sm from end video audio
  led_whole led console sound =
      let is = console_law s.console led.at.console led.stands.console in
      let other = sound_law s.sound led.at.sound led.stands.sound in
      lead_whole cm sm end from led.at video audio led.lead (record { console = omega (arith, is, console); sound = omega (arith, other, sound) })
