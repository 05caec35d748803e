use Rattle.std.proofs.Common.{rules}
use Rattle.memory_player.proofs.Fronts.{whole_moved, ends_moved}
use Rattle.memory_player.proofs.playing.fill_from.Goals as goal

pub returns-clause-whole : goal.returns-clause-whole
returns-clause-whole g c = λ job plays.
    whole_moved (g.P.Player.emits job) _ _ _ _ _ _ _ _ _ (c.run_into-filled.ensures.whole job plays) (search rules) (search rules) (search rules) (search rules)

pub returns-clause-short : goal.returns-clause-short
returns-clause-short g c = λ job plays.
    ends_moved (g.P.Player.emits job) _ _ _ _ _ _ _ _ _ (c.run_into-filled.ensures.short job plays) (search rules) (search rules) (search rules) (search rules)
