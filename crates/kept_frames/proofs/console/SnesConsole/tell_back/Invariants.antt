use Rattle.frame_player.specs.Told.{back_to}
use Rattle.kept_frames.proofs.console.SnesConsole.tell_back.Given as goal

abbrev pub ghost-tell : goal.ghost-tell
ghost-tell a = back_to a.self.now.told a._by.now
