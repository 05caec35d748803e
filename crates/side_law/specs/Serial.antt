-- The serial console: two machines that share four bytes each way, of which the earlier one always
-- makes the next step, the console where both stand at one stamp.
use Rattle.std.specs.Prelude.{ℕ, ◌+◌, Bool, nat_le, List, [], ◌∷◌, if◌then◌else◌, slice_index, slice_set}
use Rattle.snes_defs.specs.declared.ports.Act.{Act}
use Rattle.snes_defs.specs.declared.ports.Act.TheVariants.{Quiet, Read, Write, Clear}
use Rattle.port_entries.specs.Entry.{covers}
use Rattle.side_law.specs.Moves.{Moves}

-- two machines, and four bytes each way
pub record SerialState (C S : Type 0) : Type 0 where
  pub console : C
  pub sound : S
  pub to_sound : List ℕ
  pub to_console : List ℕ

-- no byte has gone either way
abbrev pub serial_of : {C S : Type 0} → C → S → SerialState C S
serial_of c s = record {
  console = c;
  sound = s;
  to_sound = 0 ∷ 0 ∷ 0 ∷ 0 ∷ [];
  to_console = 0 ∷ 0 ∷ 0 ∷ 0 ∷ [];
}

-- a read gets the incoming byte as it stands
abbrev pub got_of : Act → List ℕ → ℕ
got_of (Read port) incoming = slice_index incoming port
got_of Quiet incoming = 0
got_of (Write port byte) incoming = 0
got_of (Clear mask) incoming = 0

-- a write sets the outgoing byte
abbrev pub outgoing_after : Act → List ℕ → List ℕ
outgoing_after (Write port byte) outgoing = slice_set outgoing port byte
outgoing_after Quiet outgoing = outgoing
outgoing_after (Read port) outgoing = outgoing
outgoing_after (Clear mask) outgoing = outgoing

-- the bytes from this port on, with those of the mask zeroed
abbrev pub cleared_from : ℕ → ℕ → List ℕ → List ℕ
cleared_from port mask [] = []
cleared_from port mask (b ∷ bytes) =
    (if covers mask port then 0 else b) ∷ cleared_from (port + 1) mask bytes

-- a clear zeroes the own incoming bytes of its mask
abbrev pub incoming_after : Act → List ℕ → List ℕ
incoming_after (Clear mask) incoming = cleared_from 0 mask incoming
incoming_after Quiet incoming = incoming
incoming_after (Read port) incoming = incoming
incoming_after (Write port byte) incoming = incoming

module _ {C S : Type 0} (console_moves : Moves C) (sound_moves : Moves S) where
  -- the console is the earlier side where its stamp is not greater than the sound side's
  abbrev pub is_console_first : SerialState C S → Bool
  is_console_first w = nat_le (console_moves.stamp w.console) (sound_moves.stamp w.sound)

  -- what each side's next step gets
  abbrev pub console_got : SerialState C S → ℕ
  console_got w = got_of (console_moves.act w.console) w.to_console

  abbrev pub sound_got : SerialState C S → ℕ
  sound_got w = got_of (sound_moves.act w.sound) w.to_sound

  abbrev pub console_step : SerialState C S → SerialState C S
  console_step w = record {
    console = console_moves.next w.console (console_got w);
    sound = w.sound;
    to_sound = outgoing_after (console_moves.act w.console) w.to_sound;
    to_console = incoming_after (console_moves.act w.console) w.to_console;
  }

  abbrev pub sound_step : SerialState C S → SerialState C S
  sound_step w = record {
    console = w.console;
    sound = sound_moves.next w.sound (sound_got w);
    to_sound = incoming_after (sound_moves.act w.sound) w.to_sound;
    to_console = outgoing_after (sound_moves.act w.sound) w.to_console;
  }

  -- one turn: the earlier side makes a step
  abbrev pub turn : SerialState C S → SerialState C S
  turn w = if is_console_first w then console_step w else sound_step w

  -- the bytes that each side emits in the next turn
  abbrev pub console_emits : SerialState C S → List ℕ
  console_emits w = if is_console_first w then console_moves.bytes w.console (console_got w) else []

  abbrev pub sound_emits : SerialState C S → List ℕ
  sound_emits w = if is_console_first w then [] else sound_moves.bytes w.sound (sound_got w)
