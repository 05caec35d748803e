use Rattle.run_laws.proofs.RunBound.{run_bounded}
use Rattle.run_laws.proofs.laws.runs_are_bounded.Goals as goal

pub returns : goal.returns
returns g c = λ region console sound console_ok sound_ok console_first sound_first by_a_cycle.
    run_bounded region (g.C.Machine.valid region) (g.S.Machine.valid region) g.C.Machine.MOST g.S.Machine.MOST g.C.Machine.moves g.S.Machine.moves
    ((g.met.C.Machine g.world.𝓛 g.world.𝓜 g.world.𝓡 ((λ s x. x), (λ x. x), (λ x. x), λ x. x)).lawful region)
    ((g.met.S.Machine g.world.𝓛 g.world.𝓜 g.world.𝓡 ((λ s x. x), (λ x. x), (λ x. x), λ x. x)).lawful region)
    by_a_cycle console sound console_ok sound_ok
