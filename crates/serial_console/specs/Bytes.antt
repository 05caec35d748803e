-- What calls over eight bytes mean, while the other side is stopped: its bytes stand still but for what the machine
-- itself does to them.
use Rattle.std.specs.Prelude.{◌≡◌, ℕ, ◌-◌, ◌^◌, ◌<◌, ◌≤◌, ◌==◌, nat_le, if◌then◌else◌}
use Rattle.snes_defs.specs.declared.ports.Act.{Act}
use Rattle.side_law.specs.Gone.{Calls}
use Rattle.side_law.specs.Serial.{got_of, incoming_after, outgoing_after}
use Rattle.serial_console.specs.declared.bytes.Bytes.{Bytes}

-- a call before the stamp up to which the side is the earlier one
pub record IsByBytes (at : ℕ) (act : Act) (got : ℕ) (p q : Bytes) : Type 0 where
  pub early : at < p.first
  pub got_is : got ≡ got_of act p.incoming
  pub after : record p { incoming = incoming_after act p.incoming; outgoing = outgoing_after act p.outgoing } ≡ q

-- a later call
pub record IsLate (at : ℕ) (p q : Bytes) : Type 0 where
  pub late : p.first ≤ at
  pub same : p ≡ q

-- the stamp before which a step may emit: any while no byte waits, none with more than 512
abbrev pub room_for : Bytes → ℕ → ℕ
room_for p waiting = if waiting == 0 then 2 ^ 64 - 1 else (if nat_le waiting 512 then p.hold else 0)

abbrev pub byte_calls : Calls Bytes
byte_calls = record {
  answers = IsByBytes;
  refuses = λ at act p q. IsLate at p q;
  room = room_for;
  told = λ at waiting p q. record p { last = at } ≡ q;
}
