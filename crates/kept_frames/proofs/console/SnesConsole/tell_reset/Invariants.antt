use Rattle.frame_player.specs.Told.{pressed_in}
use Rattle.kept_frames.proofs.console.SnesConsole.tell_reset.Given as goal

abbrev pub ghost-tell : goal.ghost-tell
ghost-tell a = pressed_in a.self.now.told
