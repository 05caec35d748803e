-- How each call leaves a console, and how C has to hand it to the next. Assumes nothing: this is a definition.
use Rattle.std.specs.Prelude.{◌≡◌, ◌≤◌}
use Rattle.kept_frames.specs.declared.console.SnesConsole.{SnesConsole}

-- the number says whether a state lies there
abbrev pub AsLeft : SnesConsole → Type 0
AsLeft console = (console.full ≡ console.kept.full) × (console.full ≤ 1)
