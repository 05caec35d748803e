use Rattle.std.proofs.Common.{vec_len}
use Rattle.job_player.proofs.Plays.{on_ok}
use Rattle.job_player.proofs.Ready.{if_ok, ready_whole, ready_first, ready_bounded, words_bounded}
use Rattle.job_player.proofs.turning.play_by_turns.Goals as goal

pub returns-in-Lock-clause-whole : goal.returns-in-Lock-clause-whole
returns-in-Lock-clause-whole g c = on_ok _ c.run_turns.ensures.whole
    (ready_whole (g.K.Sink.holds c.run_turns.new.sink) c.args.turning.start.console c.args.turning.start.sound c.args.turning.ports c.args.turning.whole c.args.turning.words c.args.turning.word_whole c.args.turning.start.end (vec_len c.args.turning.start.buffer))

pub returns-in-Lock-clause-first : goal.returns-in-Lock-clause-first
returns-in-Lock-clause-first g c =
    ready_first (g.K.Sink.holds c.run_turns.new.sink) c.args.turning.start.console c.args.turning.start.sound c.args.turning.ports c.args.turning.whole c.args.turning.words c.args.turning.word_whole c.args.turning.start.end (vec_len c.args.turning.start.buffer) c.run_turns.ensures.first

pub returns-in-Lock-clause-bounded : goal.returns-in-Lock-clause-bounded
returns-in-Lock-clause-bounded g c = if_ok _ c.run_turns.ensures.bounded
    (λ turns. ready_bounded c.args.turning.start.console c.args.turning.start.sound c.args.turning.ports c.args.turning.whole c.args.turning.words c.args.turning.word_whole c.args.turning.start.end (vec_len c.args.turning.start.buffer) turns)

pub returns-clause-whole : goal.returns-clause-whole
returns-clause-whole g c = on_ok _ c.run_turns-in-Words.ensures.whole
    (ready_whole (g.K.Sink.holds c.run_turns-in-Words.new.sink) c.args.turning.start.console c.args.turning.start.sound c.args.turning.ports c.args.turning.whole c.args.turning.words c.args.turning.word_whole c.args.turning.start.end (vec_len c.args.turning.start.buffer))

pub returns-clause-first : goal.returns-clause-first
returns-clause-first g c =
    ready_first (g.K.Sink.holds c.run_turns-in-Words.new.sink) c.args.turning.start.console c.args.turning.start.sound c.args.turning.ports c.args.turning.whole c.args.turning.words c.args.turning.word_whole c.args.turning.start.end (vec_len c.args.turning.start.buffer) c.run_turns-in-Words.ensures.first

pub returns-clause-bounded : goal.returns-clause-bounded
returns-clause-bounded g c = if_ok _ c.run_turns-in-Words.ensures.bounded
    (λ turns. words_bounded c.args.turning.start.console c.args.turning.start.sound c.args.turning.ports c.args.turning.whole c.args.turning.words c.args.turning.word_whole c.args.turning.start.end (vec_len c.args.turning.start.buffer) turns)
