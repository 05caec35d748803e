use Rattle.commute_laws.proofs.FirstBytes.{emits_first}
use Rattle.commute_laws.proofs.laws.pairs_emit_first_bytes.Goals as goal

pub returns : goal.returns
returns g c = λ region console sound console_ok sound_ok.
    emits_first region (g.C.Machine.valid region) (g.S.Machine.valid region) g.C.Machine.MOST g.S.Machine.MOST g.C.Machine.moves g.S.Machine.moves
    ((g.met.C.Machine g.world.𝓛 g.world.𝓜 g.world.𝓡 ((λ s x. x), (λ x. x), (λ x. x), λ x. x)).lawful region)
    ((g.met.S.Machine g.world.𝓛 g.world.𝓜 g.world.𝓡 ((λ s x. x), (λ x. x), (λ x. x), λ x. x)).lawful region)
    console sound console_ok sound_ok
