-- The search behind the end of a job, and the sound file that is taken where it ends.
use Rattle.std.proofs.Common.{◌≡◌, ℕ, ◌+◌, ◌<◌, List, inl, inr, refl, ap, sym, subst, ◌∙◌, ⊎_elim, add-one, arith}
use Rattle.snes_defs.specs.declared.cart.Job.{Job}
use Rattle.side_law.specs.Serial.{SerialState, turn}
use Rattle.serial_console.specs.Joined.{Joined}
use Rattle.serial_console.specs.Serial.{IsAt}
use Rattle.spc_tables.specs.declared.access.SpcAccess.TheVariants.{Inner}
use Rattle.spc_tables.specs.declared.regs.SpcRegs.{SpcRegs}
use Rattle.spc_modes.specs.Plan.{first_access}
use Rattle.spc700.specs.Instruction.{SpcState, between, left_of, moved_on, registers_of}
use Rattle.spc700.specs.Stands.{Stands, access_of}
use Rattle.spc700.specs.declared.processor.Spc.{Spc}
use Rattle.console_steps.specs.ConsoleState.{ConsoleState, console_moves}
use Rattle.console_machine.specs.Side.{ConsoleValue}
use Rattle.console_machine.specs.Side as console_side
use Rattle.audio_side.specs.HardwareState.{HardwareState}
use Rattle.audio_side.specs.Sound.{AudioValue, SoundState, sound_moves}
use Rattle.audio_side.specs.Sound as sound_side
use Rattle.run_drive.specs.Ended.{HasEnded, IsLeft}
use Rattle.state_file.specs.Put.{Put}
use Rattle.sound_file.specs.Bytes.{sound_bytes}
use Rattle.job_player.specs.Start.{console_of, sound_of}
use Rattle.job_player.specs.Left.{after}
use Rattle.job_player.specs.Sounded.{IsInTime, IsMoment, onward, bytes_at, IsLate, HasGone, IsTakenFrom, Sounds, CanSound}
use Rattle.job_player.proofs.Ends.{job_is_playable}
use Rattle.job_player.proofs.InTime.{not_late}

-- A MOMENT by what the calls of the sound side say: its processor has halted
pub halted_is : (side : AudioValue) (spc : Spc) (first : ℕ) → spc ≡ side.processor → access_of spc ≡ Inner
    → ((s : SpcState) (byte : ℕ) → Stands spc s → Stands spc (moved_on s byte))
    → (m : SoundState) → sound_side.StandsAt side m → IsMoment first m
halted_is side spc first is inner stays m at =
    let here : Stands spc m.processor = subst (λ (x : Spc). Stands x m.processor) (sym is) at.processor in
    inl (record {
      inner = sym (ap first_access here.left) ∙ inner;
      stays = λ byte. sym (stays m.processor byte here).left ∙ here.left;
    })

-- or an instruction begins, in time
pub begins_is : (side : AudioValue) (first cycle : ℕ) (regs : SpcRegs) → Stands side.processor (between regs) → cycle ≡ side.clock.cycle → IsInTime first cycle
    → (m : SoundState) → sound_side.StandsAt side m → IsMoment first m
begins_is side first cycle regs begins cycle_is time m at =
    let start : regs ≡ registers_of m.processor = sym begins.start ∙ at.processor.start in
    let left : left_of m.processor ≡ left_of (between (registers_of m.processor))
    = sym at.processor.left ∙ (begins.left ∙ ap (λ (r : SpcRegs). left_of (between r)) start) in
    let same : cycle ≡ m.clock.cycle = cycle_is ∙ ap (λ k. k.cycle) at.clock in
    inr (left, subst (IsInTime first) same time)

-- THE SEARCH
module _ (w : SerialState ConsoleState SoundState) where
  pub onward_none : onward w 0 ≡ w
  unfolding onward
  onward_none = refl

  pub onward_more : (serial next : Joined ConsoleValue AudioValue) (n : ℕ) → IsAt console_side.StandsAt sound_side.StandsAt serial (onward w n)
      → ((v : SerialState ConsoleState SoundState) → IsAt console_side.StandsAt sound_side.StandsAt serial v → IsAt console_side.StandsAt sound_side.StandsAt next (turn console_moves sound_moves v))
      → IsAt console_side.StandsAt sound_side.StandsAt next (onward w (n + 1))
  unfolding onward
  onward_more serial next n h turned = rw add-one (turned (onward w n) h)

  module _ (serial : Joined ConsoleValue AudioValue) (n : ℕ) (stands : IsAt console_side.StandsAt sound_side.StandsAt serial (onward w n)) where
    pub gone_found : n < 1048576 → (first : ℕ) → first ≡ w.sound.clock.cycle → ((m : SoundState) → sound_side.StandsAt serial.sound m → IsMoment first m) → HasGone w serial
    gone_found lt first is moment = record {
      more = n;
      few = omega (arith, lt);
      searched = inl (inl (subst (λ (f : ℕ). IsMoment f (onward w n).sound) is (moment (onward w n).sound stands.sound)));
      stands = stands;
    }

    pub gone_late : n < 1048576 → IsLate (onward w n) → HasGone w serial
    gone_late lt late = record { more = n; few = omega (arith, lt); searched = inr late; stands = stands }

    pub gone_all : n ≡ 1048576 → HasGone w serial
    gone_all is = record { more = n; few = omega (arith, is); searched = inl (inr is); stands = stands }

-- THE FILE of a value that stands where the search ends, by what each call says
pub taken_is : (w : SerialState ConsoleState SoundState) (gone : Joined ConsoleValue AudioValue) → HasGone w gone
    → (side : AudioValue) (spc : Spc) (regs : SpcRegs) (ports file : List ℕ)
    → side ≡ gone.sound → spc ≡ side.processor → ((s : SpcState) → Stands spc s → regs ≡ registers_of s) → ports ≡ gone.to_sound
    → file ≡ sound_bytes regs side.hardware ports → IsTakenFrom w file
taken_is w gone h side spc regs ports file side_is spc_is regs_are ports_are file_is =
    let there = onward w h.more in
    let processor : Stands spc there.sound.processor
    = subst (λ (x : Spc). Stands x there.sound.processor) (sym (spc_is ∙ ap (λ (v : AudioValue). v.processor) side_is)) h.stands.sound.processor in
    record {
      more = h.more;
      few = h.few;
      searched = h.searched;
      bytes_are =
          file_is
          ∙ (ap (λ (r : SpcRegs). sound_bytes r side.hardware ports) (regs_are there.sound.processor processor)
          ∙ (ap (λ (b : HardwareState). sound_bytes (registers_of there.sound.processor) b ports) (ap (λ (v : AudioValue). v.hardware) side_is ∙ h.stands.sound.hardware)
          ∙ ap (λ (p : List ℕ). sound_bytes (registers_of there.sound.processor) there.sound.hardware p) (ports_are ∙ h.stands.to_sound)));
    }

module _ (c : ConsoleValue) (s : AudioValue) (end size : ℕ) (to : Put) (serial : Joined ConsoleValue AudioValue)
    (ended : (m : ConsoleState) (n : SoundState) → console_side.StandsAt c m → sound_side.StandsAt s n → HasEnded console_moves sound_moves console_side.StandsAt sound_side.StandsAt m n end serial) where
  -- the sound file of a run that has ended
  pub sounds_is : (file : List ℕ) → ((w : SerialState ConsoleState SoundState) → IsAt console_side.StandsAt sound_side.StandsAt serial w → IsTakenFrom w file)
      → (job : Job) → CanSound c s end size to job → Sounds job file
  sounds_is file takes job h =
      let e = subst (λ n. HasEnded console_moves sound_moves console_side.StandsAt sound_side.StandsAt (console_of job) (sound_of job) n serial) h.start.end_is
      (ended (console_of job) (sound_of job) h.start.console h.start.sound) in
      let t = takes (after job e.turns) e.stands in
      record {
        turns = e.turns;
        runs = e.runs;
        more = t.more;
        few = t.few;
        searched = ⊎_elim (λ found. found) (λ late. absurd (not_late job h.start.few e.turns e.runs t.more t.few late)) t.searched;
        bytes_are = t.bytes_are;
      }

-- the run of a job leaves a sound file
pub job_sounds : (job : Job) → IsLeft (Sounds job)
job_sounds job =
    let out = (job_is_playable job).emitted in
    record {
      bytes = bytes_at (onward (after job out.turns) 1048576);
      left = record { turns = out.turns; runs = out.runs; more = 1048576; few = omega arith; searched = inr refl; bytes_are = refl };
    }
