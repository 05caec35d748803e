use Rattle.run_laws.proofs.laws.steps_come_in_time.Goals as goal
use Rattle.run_laws.proofs.StepsInTime.{console_in_time, sound_in_time}

pub returns-clause-console : goal.returns-clause-console
returns-clause-console g c = λ region console sound console_ok sound_ok.
    console_in_time region (g.C.Machine.valid region) (g.S.Machine.valid region) g.C.Machine.MOST g.S.Machine.MOST g.C.Machine.moves g.S.Machine.moves
    ((g.met.C.Machine g.world.𝓛 g.world.𝓜 g.world.𝓡 ((λ s x. x), (λ x. x), (λ x. x), λ x. x)).lawful region)
    ((g.met.S.Machine g.world.𝓛 g.world.𝓜 g.world.𝓡 ((λ s x. x), (λ x. x), (λ x. x), λ x. x)).lawful region)
    console sound console_ok sound_ok

pub returns-clause-sound : goal.returns-clause-sound
returns-clause-sound g c = λ region console sound console_ok sound_ok.
    sound_in_time region (g.C.Machine.valid region) (g.S.Machine.valid region) g.C.Machine.MOST g.S.Machine.MOST g.C.Machine.moves g.S.Machine.moves
    ((g.met.C.Machine g.world.𝓛 g.world.𝓜 g.world.𝓡 ((λ s x. x), (λ x. x), (λ x. x), λ x. x)).lawful region)
    ((g.met.S.Machine g.world.𝓛 g.world.𝓜 g.world.𝓡 ((λ s x. x), (λ x. x), (λ x. x), λ x. x)).lawful region)
    console sound console_ok sound_ok
