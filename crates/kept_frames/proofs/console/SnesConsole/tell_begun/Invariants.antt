use Rattle.frame_player.specs.Told.{told_first}
use Rattle.kept_frames.proofs.console.SnesConsole.tell_begun.Given as goal

abbrev pub ghost-tell : goal.ghost-tell
ghost-tell a = told_first a._by.now.0.now a._by.now.1.now a._by.now.2.now a._by.now.3 a._by.now.4 a._by.now.5
