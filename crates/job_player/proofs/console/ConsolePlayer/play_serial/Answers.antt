use Rattle.std.proofs.Common.{vec_len}
use Rattle.job_player.proofs.Plays.{on_ok, played_whole, played_first}
use Rattle.job_player.proofs.console.ConsolePlayer.play_serial.Goals as goal

pub returns-clause-whole : goal.returns-clause-whole
returns-clause-whole g c = on_ok _ c.run_serial.ensures.whole
    (played_whole (g.K.Sink.holds c.run_serial.new.sink) c.args.self.console c.args.self.sound c.args.self.end (vec_len c.args.self.buffer))

pub returns-clause-first : goal.returns-clause-first
returns-clause-first g c =
    played_first (g.K.Sink.holds c.run_serial.new.sink) c.args.self.console c.args.self.sound c.args.self.end (vec_len c.args.self.buffer) c.run_serial.ensures.first
