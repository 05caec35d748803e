-- The outputs that a run goes to, and what a run changes of a shelf.
use Rattle.std.specs.Prelude.{◌≡◌}
use Rattle.snes_defs.specs.declared.ports.Side.{Side}
use Rattle.snes_defs.specs.declared.ports.Side.TheVariants.{Console, Sound}
use Rattle.shelf.specs.declared.shelves.Out.{Out}
use Rattle.shelf.specs.declared.shelves.Out.TheVariants as out
use Rattle.shelf.specs.Shown.{Shown, OnlyRuns}

-- the console's bytes are the video, the sound side's the sound
abbrev pub output_of : Side → Out
output_of Console = out.Video
output_of Sound = out.Sound

-- bytes were put to video and sound, under the names that they had, and nothing else was changed
pub record OnlyFills (before after : Shown) : Type 0 where
  pub only : OnlyRuns before after
  pub named : after.named ≡ before.named
