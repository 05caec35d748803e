use Rattle.frame_player.specs.Told.{kept_in}
use Rattle.kept_frames.proofs.console.SnesConsole.tell_kept.Given as goal

abbrev pub ghost-tell : goal.ghost-tell
ghost-tell a = kept_in a.self.now.told a._by.now
