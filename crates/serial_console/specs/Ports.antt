-- What contracts see of the eight bytes of a serial console, four each way, each by its port.
use Rattle.std.specs.Prelude.{ℕ, List}
use Rattle.serial_console.specs.Joined.{Joined}

module _ {C S : Type 0} where
  abbrev pub bytes_to_sound : Joined C S → List ℕ
  bytes_to_sound s = s.to_sound

  abbrev pub bytes_to_console : Joined C S → List ℕ
  bytes_to_console s = s.to_console
