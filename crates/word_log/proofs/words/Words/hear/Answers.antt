use Rattle.word_log.proofs.Calling.{heard-ready}
use Rattle.word_log.proofs.words.Words.hear.Goals as goal

pub returns-clause-ready : goal.returns-clause-ready
returns-clause-ready c =
    let e = c.listen.ensures in
    heard-ready c.args.side _ _ _ c.args.desk.now _ c.requires.ready e.desk e.reads e.listens.mine e.listens.at e.known e.listens.upto e.soon e.written
