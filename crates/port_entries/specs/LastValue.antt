-- What a side finds at one of its incoming ports at a stamp: the last write of the other side that
-- it sees then, unless a clear of its own has zeroed that write. This project's own profile.
use Rattle.std.specs.Prelude.{ℕ, ◌==◌, Bool, true, ◌&&◌, ◌||◌, not, nat_lt, nat_le, List, [], ◌∷◌, if◌then◌else◌}
use Rattle.std.specs.List.{list_all}
use Rattle.snes_defs.specs.declared.ports.Side.{Side}
use Rattle.snes_defs.specs.declared.ports.Side.TheVariants.{Console, Sound}
use Rattle.port_entries.specs.Entry.{Entry, WriteAt, ClearAt, covers}

-- whether a side sees, at a stamp, what the other side wrote at another: the console sees what is
-- strictly earlier, the sound side also what is written at that very stamp
abbrev pub sees : Side → ℕ → ℕ → Bool
sees Console written at = nat_lt written at
sees Sound written at = nat_le written at

-- whether an entry of the side's own leaves a write to a port: a clear leaves it where it doesn't
-- cover the port, or the side doesn't see the write at the stamp of the clear
abbrev pub leaves : Side → ℕ → ℕ → Entry → Bool
leaves side port written (WriteAt at p byte) = true
leaves side port written (ClearAt at mask) = not (covers mask port) || not (sees side written at)

-- whether a write of the other side to a port counts at a stamp: the side sees it, and each of its
-- own entries leaves it
abbrev pub counts : Side → List Entry → ℕ → ℕ → ℕ → Bool
counts side own port at written = sees side written at && list_all (leaves side port written) own

-- the byte of a port after one more entry of the other side
abbrev pub byte_after : Side → List Entry → ℕ → ℕ → ℕ → Entry → ℕ
byte_after side own port at byte (WriteAt written p v) =
    if p == port && counts side own port at written then v else byte
byte_after side own port at byte (ClearAt written mask) = byte

-- the byte after a list of entries of the other side
abbrev pub byte_after_all : Side → List Entry → ℕ → ℕ → ℕ → List Entry → ℕ
byte_after_all side own port at byte [] = byte
byte_after_all side own port at byte (e ∷ others) =
    byte_after_all side own port at (byte_after side own port at byte e) others

-- the last value: what the side finds at the port at that stamp, over its own entries and the other
-- side's; 0 where no write counts
abbrev pub last_value : Side → List Entry → ℕ → ℕ → List Entry → ℕ
last_value side own port at others = byte_after_all side own port at 0 others
