use Rattle.run_laws.proofs.laws.turns_end.Goals as goal
use Rattle.run_laws.proofs.TurnsEnd.{at_most_turns}

pub returns : goal.returns
returns g c = λ region console sound console_ok console_first sound_first frames turns each below.
    at_most_turns region (g.C.Machine.valid region) (g.S.Machine.valid region) g.C.Machine.MOST g.S.Machine.MOST g.C.Machine.moves g.S.Machine.moves
    ((g.met.C.Machine g.world.𝓛 g.world.𝓜 g.world.𝓡 ((λ s x. x), (λ x. x), (λ x. x), λ x. x)).lawful region)
    ((g.met.S.Machine g.world.𝓛 g.world.𝓜 g.world.𝓡 ((λ s x. x), (λ x. x), (λ x. x), λ x. x)).lawful region)
    frames turns console sound console_ok console_first sound_first each below
