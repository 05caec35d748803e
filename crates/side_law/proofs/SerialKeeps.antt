-- What a turn of the serial machine keeps: valid states, and bytes at the ports.
use Rattle.std.proofs.Common.{◌≡◌, ℕ, zero, suc, ◌+◌, ◌<◌, ◌≤◌, Bool, true, false, cond, List, [], ◌∷◌, length, get_or, set, refl, ap, sym, ◌∙◌, subst, ⊎_elim, arith, length-set}
use Rattle.std.specs.Prelude.{if◌then◌else◌}
use Rattle.std.proofs.lemmas.List.{get_or-set_same, get_or-set_other}
use Rattle.std.proofs.lemmas.Bool.{cases_eq, leb-true, leb-false}
use Rattle.snes_defs.specs.declared.ports.Act.{Act}
use Rattle.snes_defs.specs.declared.ports.Act.TheVariants.{Quiet, Read, Write, Clear}
use Rattle.snes_defs.specs.declared.region.Region.{Region}
use Rattle.clock_ratio.specs.Stamp.{least_of}
use Rattle.port_entries.specs.Entry.{covers}
use Rattle.side_law.specs.Moves.{Moves, IsLawful, IsAtPorts}
use Rattle.side_law.specs.Serial.{SerialState, serial_of, got_of, outgoing_after, incoming_after, is_console_first, console_got, sound_got, console_step, sound_step, turn}
use Rattle.side_law.proofs.Cleared.{cleared-at, length-cleared_from}

-- four bytes
pub record AreBytes (bytes : List ℕ) : Type 0 where
  pub four : length bytes ≡ 4
  pub small : (port : ℕ) → get_or bytes port 0 < 256

pub got_small : (act : Act) (bytes : List ℕ) → AreBytes bytes → got_of act bytes < 256
got_small Quiet bytes h = omega arith
got_small (Read port) bytes h = h.small port
got_small (Write port byte) bytes h = omega arith
got_small (Clear mask) bytes h = omega arith

pub incoming_bytes : (act : Act) (bytes : List ℕ) → AreBytes bytes → AreBytes (incoming_after act bytes)
incoming_bytes Quiet bytes h = h
incoming_bytes (Read port) bytes h = h
incoming_bytes (Write port byte) bytes h = h
incoming_bytes (Clear mask) bytes h = record {
  four = length-cleared_from 0 mask bytes ∙ h.four;
  small = λ port. subst (λ b. b < 256) (sym (cleared-at 0 mask bytes port)) (picked port (covers mask (0 + port)));
}
  where
    picked : (port : ℕ) (t : Bool) → cond t 0 (get_or bytes port 0) < 256
    picked port true = omega arith
    picked port false = h.small port

pub outgoing_bytes : (act : Act) (bytes : List ℕ) → IsAtPorts act → AreBytes bytes → AreBytes (outgoing_after act bytes)
outgoing_bytes Quiet bytes ports h = h
outgoing_bytes (Read port) bytes ports h = h
outgoing_bytes (Clear mask) bytes ports h = h
outgoing_bytes (Write p byte) bytes ports h = record {
  four = length-set bytes p byte ∙ h.four;
  small = λ port. ⊎_elim (same port) (other port) (cases_eq port p);
}
  where
    same : (port : ℕ) → port ≡ p → get_or (set bytes p byte) port 0 < 256
    same port e =
        subst (λ q. get_or (set bytes p byte) q 0 < 256) (sym e)
        (subst (λ b. b < 256) (sym (get_or-set_same bytes p byte 0 (omega (arith, h.four, ports.0)))) ports.1)

    other : (port : ℕ) → (port ≡ p → ⊥) → get_or (set bytes p byte) port 0 < 256
    other port ne = subst (λ b. b < 256) (sym (get_or-set_other bytes p port byte 0 ne)) (h.small port)

module _ {C S : Type 0} (console_valid : C → Type 0) (sound_valid : S → Type 0) where
  pub record IsServing (w : SerialState C S) : Type 0 where
    pub console : console_valid w.console
    pub sound : sound_valid w.sound
    pub to_sound : AreBytes w.to_sound
    pub to_console : AreBytes w.to_console

zeros : AreBytes (0 ∷ 0 ∷ 0 ∷ 0 ∷ [])
zeros = record { four = refl; small = small }
  where
    small : (port : ℕ) → get_or (0 ∷ 0 ∷ 0 ∷ 0 ∷ []) port 0 < 256
    small zero = omega arith
    small (suc zero) = omega arith
    small (suc (suc zero)) = omega arith
    small (suc (suc (suc zero))) = omega arith
    small (suc (suc (suc (suc port)))) = omega arith

pub serving_at_first : {C S : Type 0} (console_valid : C → Type 0) (sound_valid : S → Type 0) (c : C) (s : S)
    → console_valid c → sound_valid s → IsServing console_valid sound_valid (serial_of c s)
serving_at_first console_valid sound_valid c s hc hs =
    record { console = hc; sound = hs; to_sound = zeros; to_console = zeros }

module _ {C S : Type 0} (console_moves : Moves C) (sound_moves : Moves S) where
  -- a turn is a step of the console, which is not later, or of the sound side, which is earlier
  pub data TurnOf (w : SerialState C S) : Type 0 where
    by_console : console_moves.stamp w.console ≤ sound_moves.stamp w.sound
        → is_console_first console_moves sound_moves w ≡ true → TurnOf w
    by_sound : sound_moves.stamp w.sound < console_moves.stamp w.console
        → is_console_first console_moves sound_moves w ≡ false → TurnOf w

  pub turn_of : (w : SerialState C S) → TurnOf w
  turn_of w = go (is_console_first console_moves sound_moves w) refl
    where
      go : (t : Bool) → is_console_first console_moves sound_moves w ≡ t → TurnOf w
      go true e = by_console (leb-true (console_moves.stamp w.console) (sound_moves.stamp w.sound) e) e
      go false e = by_sound (leb-false (console_moves.stamp w.console) (sound_moves.stamp w.sound) e) e

  pub turn_console : (w : SerialState C S) → is_console_first console_moves sound_moves w ≡ true
      → turn console_moves sound_moves w ≡ console_step console_moves sound_moves w
  turn_console w e = ap (λ t. if t then console_step console_moves sound_moves w else sound_step console_moves sound_moves w) e

  pub turn_sound : (w : SerialState C S) → is_console_first console_moves sound_moves w ≡ false
      → turn console_moves sound_moves w ≡ sound_step console_moves sound_moves w
  turn_sound w e = ap (λ t. if t then console_step console_moves sound_moves w else sound_step console_moves sound_moves w) e

module _ {C S : Type 0} (region : Region) (console_valid : C → Type 0) (sound_valid : S → Type 0) (console_most sound_most : ℕ)
    (console_moves : Moves C) (sound_moves : Moves S)
    (console_lawful : IsLawful region console_valid console_most console_moves) (sound_lawful : IsLawful region sound_valid sound_most sound_moves) where
  console_step_serves : (w : SerialState C S) → IsServing console_valid sound_valid w
      → IsServing console_valid sound_valid (console_step console_moves sound_moves w)
  console_step_serves w h = record {
    console = console_lawful.stays_valid w.console (console_got console_moves sound_moves w) h.console (got_small (console_moves.act w.console) w.to_console h.to_console);
    sound = h.sound;
    to_sound = outgoing_bytes (console_moves.act w.console) w.to_sound (console_lawful.at_ports w.console h.console) h.to_sound;
    to_console = incoming_bytes (console_moves.act w.console) w.to_console h.to_console;
  }

  sound_step_serves : (w : SerialState C S) → IsServing console_valid sound_valid w
      → IsServing console_valid sound_valid (sound_step console_moves sound_moves w)
  sound_step_serves w h = record {
    console = h.console;
    sound = sound_lawful.stays_valid w.sound (sound_got console_moves sound_moves w) h.sound (got_small (sound_moves.act w.sound) w.to_sound h.to_sound);
    to_sound = incoming_bytes (sound_moves.act w.sound) w.to_sound h.to_sound;
    to_console = outgoing_bytes (sound_moves.act w.sound) w.to_console (sound_lawful.at_ports w.sound h.sound) h.to_console;
  }

  pub turn_serves : (w : SerialState C S) → IsServing console_valid sound_valid w
      → IsServing console_valid sound_valid (turn console_moves sound_moves w)
  turn_serves w h = go (turn_of console_moves sound_moves w)
    where
      go : TurnOf console_moves sound_moves w → IsServing console_valid sound_valid (turn console_moves sound_moves w)
      go (by_console le e) = subst (IsServing console_valid sound_valid) (sym (turn_console console_moves sound_moves w e)) (console_step_serves w h)
      go (by_sound lt e) = subst (IsServing console_valid sound_valid) (sym (turn_sound console_moves sound_moves w e)) (sound_step_serves w h)

  pub console_step_rises : (w : SerialState C S) → IsServing console_valid sound_valid w
      → console_moves.stamp w.console + least_of region ≤ console_moves.stamp (console_step console_moves sound_moves w).console
  console_step_rises w h = console_lawful.rises w.console (console_got console_moves sound_moves w) h.console (got_small (console_moves.act w.console) w.to_console h.to_console)

  pub sound_step_rises : (w : SerialState C S) → IsServing console_valid sound_valid w
      → sound_moves.stamp w.sound + least_of region ≤ sound_moves.stamp (sound_step console_moves sound_moves w).sound
  sound_step_rises w h = sound_lawful.rises w.sound (sound_got console_moves sound_moves w) h.sound (got_small (sound_moves.act w.sound) w.to_sound h.to_sound)
