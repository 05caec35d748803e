use Rattle.word_log.proofs.Wholing.{meets-by}
use Rattle.word_log.proofs.words.Words.write_both.Goals as goal

pub returns-clause-meets : goal.returns-clause-meets
returns-clause-meets c =
    meets-by c.args.side _ _ _ _ _ c.write_by-answer.ensures.listens c.look.ensures.told c.requires.half c.requires.other_half
