use Rattle.word_log.specs.Desks.{nothing_at}
use Rattle.word_log.proofs.words.Words.hear.Given as goal

abbrev pub ghosts-listen : goal.ghosts-listen
ghosts-listen a = record { logs = nothing_at }
