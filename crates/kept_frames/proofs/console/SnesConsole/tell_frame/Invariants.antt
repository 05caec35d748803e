use Rattle.frame_player.specs.Told.{gone_on, word_of}
use Rattle.kept_frames.proofs.console.SnesConsole.tell_frame.Given as goal

abbrev pub ghost-tell : goal.ghost-tell
ghost-tell a = gone_on a.self.now.told (word_of a._by.now.0) (word_of a._by.now.1)
