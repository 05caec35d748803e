-- What a step gets at the ports.
use Rattle.std.proofs.Common.{◌≡◌, ℕ, List, refl}
use Rattle.snes_defs.specs.declared.ports.Act.{Act}
use Rattle.snes_defs.specs.declared.ports.Act.TheVariants.{Quiet, Read, Write, Clear}
use Rattle.side_law.specs.Moves.{taken}
use Rattle.side_law.specs.Serial.{got_of}

-- what a step gets is what it takes
pub taken_got : (act : Act) (incoming : List ℕ) → taken act (got_of act incoming) ≡ got_of act incoming
taken_got Quiet incoming = refl
taken_got (Read port) incoming = refl
taken_got (Write port byte) incoming = refl
taken_got (Clear mask) incoming = refl
