-- Steps of one side: one more, steps after steps, and where they lead two machines ahead of a serial console.
use Rattle.std.proofs.Common.{ℕ, zero, suc, ◌+◌, ◌≤◌, List, [], ◌++◌, refl, ap, sym, ◌∙◌, subst, ⊎_elim, append_assoc, arith}
use Rattle.std.proofs.lemmas.List.{append-nil}
use Rattle.side_law.specs.Moves.{Moves}
use Rattle.side_law.specs.Serial.{SerialState, got_of, console_step, sound_step}
use Rattle.side_law.specs.Sides.{SideState, side_step, side_bytes}
use Rattle.serial_console.specs.Lead.{IsLead, MayStep, SideSteps}
use Rattle.serial_console.proofs.Lead.{lead_console_quiet, lead_console_turn, lead_sound_quiet, lead_sound_turn, quiet_console_step, quiet_sound_step}

module _ {State : Type 0} (moves : Moves State) (first end : ℕ) where
  -- one step more
  pub steps_on : (n : ℕ) (p q : SideState State) (bytes : List ℕ) → SideSteps moves first end n p q bytes → MayStep moves first end q
      → SideSteps moves first end (suc n) p (side_step moves q) (bytes ++ side_bytes moves q)
  steps_on zero p q bytes (same, none) may =
      subst (λ x. SideSteps moves first end 1 x (side_step moves q) (bytes ++ side_bytes moves q)) (sym same)
      (may, ([], append-nil _ ∙ ap (λ v. v ++ side_bytes moves q) (sym none), (refl, refl)))
  steps_on (suc n) p q bytes (goes, (later, joined, rest)) may = (
    goes,
    (
      later ++ side_bytes moves q,
      sym (append_assoc (side_bytes moves p) later (side_bytes moves q)) ∙ ap (λ v. v ++ side_bytes moves q) joined,
      steps_on n (side_step moves p) q later rest may,
    ),
  )

  -- steps after steps
  pub steps_then : (n k : ℕ) (p q r : SideState State) (bytes more : List ℕ) → SideSteps moves first end n p q bytes → SideSteps moves first end k q r more
      → (m : ℕ) × SideSteps moves first end m p r (bytes ++ more)
  steps_then zero k p q r bytes more (same, none) then =
      (k, subst (λ b. SideSteps moves first end k p r (b ++ more)) (sym none) (subst (λ x. SideSteps moves first end k x r more) (sym same) then))
  steps_then (suc n) k p q r bytes more (goes, (later, joined, rest)) then =
      let all = steps_then n k (side_step moves p) q r later more rest then in
      (suc all.0, (goes, (later ++ more, sym (append_assoc (side_bytes moves p) later more) ∙ ap (λ v. v ++ more) joined, all.1)))

module _ {C S : Type 0} (cm : Moves C) (sm : Moves S) (first end : ℕ) (from : SerialState C S) where
  -- a step of the console
  pub console_goes : (at : SerialState C S) (video audio : List ℕ) → IsLead cm sm end from at video audio
      → MayStep cm first end (record { own = at.console; incoming = at.to_console; outgoing = at.to_sound }) → first ≤ sm.stamp at.sound + 1
      → IsLead cm sm end from (console_step cm sm at) (video ++ cm.bytes at.console (got_of (cm.act at.console) at.to_console)) audio
  console_goes at video audio lead may up_to = ⊎_elim
      (λ quiet.
      let is = ap (λ act. cm.next at.console (got_of act at.to_console)) quiet in
      let up : cm.stamp at.console ≤ cm.stamp (cm.next at.console 0) = subst (λ x. cm.stamp at.console ≤ cm.stamp x) is may.rises in
      subst (λ x. IsLead cm sm end from x (video ++ cm.bytes at.console (got_of (cm.act at.console) at.to_console)) audio) (sym (quiet_console_step cm sm end from at quiet))
      (subst (λ b. IsLead cm sm end from (record at { console = cm.next at.console 0 }) (video ++ b) audio) (sym (ap (λ act. cm.bytes at.console (got_of act at.to_console)) quiet))
      (lead_console_quiet cm sm end from at video audio lead quiet may.before up)))
      (λ early. lead_console_turn cm sm end from at video audio lead (omega (arith, early, up_to)) may.before)
      may.may

  -- and of the sound side
  sound_goes : (at : SerialState C S) (video audio : List ℕ) → IsLead cm sm end from at video audio
      → MayStep sm first end (record { own = at.sound; incoming = at.to_sound; outgoing = at.to_console }) → first ≤ cm.stamp at.console
      → IsLead cm sm end from (sound_step cm sm at) video (audio ++ sm.bytes at.sound (got_of (sm.act at.sound) at.to_sound))
  sound_goes at video audio lead may up_to = ⊎_elim
      (λ quiet.
      let is = ap (λ act. sm.next at.sound (got_of act at.to_sound)) quiet in
      let up : sm.stamp at.sound ≤ sm.stamp (sm.next at.sound 0) = subst (λ x. sm.stamp at.sound ≤ sm.stamp x) is may.rises in
      subst (λ x. IsLead cm sm end from x video (audio ++ sm.bytes at.sound (got_of (sm.act at.sound) at.to_sound))) (sym (quiet_sound_step cm sm end from at quiet))
      (subst (λ b. IsLead cm sm end from (record at { sound = sm.next at.sound 0 }) video (audio ++ b)) (sym (ap (λ act. sm.bytes at.sound (got_of act at.to_sound)) quiet))
      (lead_sound_quiet cm sm end from at video audio lead quiet may.before up)))
      (λ early. lead_sound_turn cm sm end from at video audio lead (omega (arith, early, up_to)) may.before)
      may.may

  -- steps of the sound side
  pub sound_leads : (n : ℕ) (at : SerialState C S) (q : SideState S) (video audio bytes : List ℕ) → IsLead cm sm end from at video audio
      → SideSteps sm first end n (record { own = at.sound; incoming = at.to_sound; outgoing = at.to_console }) q bytes → first ≤ cm.stamp at.console
      → IsLead cm sm end from (record { console = at.console; sound = q.own; to_sound = q.incoming; to_console = q.outgoing }) video (audio ++ bytes)
  sound_leads zero at q video audio bytes lead (same, none) up_to =
      subst (λ a. IsLead cm sm end from (record { console = at.console; sound = q.own; to_sound = q.incoming; to_console = q.outgoing }) video a) (sym (append-nil audio) ∙ ap (λ b. audio ++ b) (sym none))
      (subst (λ (x : SideState S). IsLead cm sm end from (record { console = at.console; sound = x.own; to_sound = x.incoming; to_console = x.outgoing }) video audio) same lead)
  sound_leads (suc n) at q video audio bytes lead (may, (later, joined, rest)) up_to =
      let b = sm.bytes at.sound (got_of (sm.act at.sound) at.to_sound) in
      subst (λ a. IsLead cm sm end from (record { console = at.console; sound = q.own; to_sound = q.incoming; to_console = q.outgoing }) video a) (append_assoc audio b later ∙ ap (λ a. audio ++ a) joined)
      (sound_leads n (sound_step cm sm at) q video (audio ++ b) later (sound_goes at video audio lead may up_to) rest up_to)
