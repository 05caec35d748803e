use Rattle.word_log.specs.Desks.{clear_at}
use Rattle.word_log.proofs.words.Words.clear_by.Given as goal

abbrev pub ghosts-listen : goal.ghosts-listen
ghosts-listen a = record { logs = clear_at a.side a._at a._mask }
