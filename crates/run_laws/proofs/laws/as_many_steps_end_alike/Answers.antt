use Rattle.run_laws.proofs.laws.as_many_steps_end_alike.Goals as goal
use Rattle.std.proofs.Common.{◌∙◌, sym}
use Rattle.commute_laws.proofs.OnRuns.{one_place}
use Rattle.run_laws.proofs.LegalRuns.{legal_on_run}

pub returns : goal.returns
returns g c = λ region console sound console_ok sound_ok moves others legal other_legal same_console same_sound.
    let a = legal_on_run region (g.C.Machine.valid region) (g.S.Machine.valid region) g.C.Machine.MOST g.S.Machine.MOST g.C.Machine.moves g.S.Machine.moves
    ((g.met.C.Machine g.world.𝓛 g.world.𝓜 g.world.𝓡 ((λ s x. x), (λ x. x), (λ x. x), λ x. x)).lawful region)
    ((g.met.S.Machine g.world.𝓛 g.world.𝓜 g.world.𝓡 ((λ s x. x), (λ x. x), (λ x. x), λ x. x)).lawful region)
    console sound console_ok sound_ok moves legal in
    let b = legal_on_run region (g.C.Machine.valid region) (g.S.Machine.valid region) g.C.Machine.MOST g.S.Machine.MOST g.C.Machine.moves g.S.Machine.moves
    ((g.met.C.Machine g.world.𝓛 g.world.𝓜 g.world.𝓡 ((λ s x. x), (λ x. x), (λ x. x), λ x. x)).lawful region)
    ((g.met.S.Machine g.world.𝓛 g.world.𝓜 g.world.𝓡 ((λ s x. x), (λ x. x), (λ x. x), λ x. x)).lawful region)
    console sound console_ok sound_ok others other_legal in
    one_place region (g.C.Machine.valid region) (g.S.Machine.valid region) g.C.Machine.MOST g.S.Machine.MOST g.C.Machine.moves g.S.Machine.moves
    ((g.met.C.Machine g.world.𝓛 g.world.𝓜 g.world.𝓡 ((λ s x. x), (λ x. x), (λ x. x), λ x. x)).lawful region)
    ((g.met.S.Machine g.world.𝓛 g.world.𝓜 g.world.𝓡 ((λ s x. x), (λ x. x), (λ x. x), λ x. x)).lawful region)
    console sound console_ok sound_ok _ _ _ _ a.on_run b.on_run
    (a.console_steps ∙ same_console ∙ sym b.console_steps) (a.sound_steps ∙ same_sound ∙ sym b.sound_steps)
