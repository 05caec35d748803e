-- The console of the rows.
use Rattle.frame_player.specs.Told.{Told}
use Rattle.frame_player.specs.Frames.{IsFramesOf}
use Rattle.frame_rows.specs.declared.played.Played.{Played}

-- it is the console of something that was told
abbrev pub IsConsole : Played → Type 0
IsConsole p = (told : Told) × IsFramesOf told p.console
