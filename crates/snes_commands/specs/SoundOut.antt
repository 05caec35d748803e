-- What was taken of the sound side alone.
use Rattle.std.specs.Prelude.{ℕ, List}
use Rattle.snes_defs.specs.declared.ports.Side.{Side}
use Rattle.snes_defs.specs.declared.ports.Side.TheVariants.{Console, Sound}
use Rattle.shelf.specs.declared.shelves.Out.TheVariants as out
use Rattle.shelf.specs.Told.{Holds}
use Rattle.shelf.specs.Shown.{Shown}

-- the output for sound holds the bytes of the sound side; those of a console are passed over
abbrev pub HoldsSound : Shown → Side → List ℕ → Type 0
HoldsSound shown Console bytes = Unit {0}
HoldsSound shown Sound bytes = Holds (shown.written out.Sound) bytes
