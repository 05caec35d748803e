use Rattle.std.proofs.Common.{refl}
use Rattle.commute_laws.specs.History.{history_after}
use Rattle.commute_laws.proofs.OnRuns.{console_below_next, sound_below_next, heard_below}
use Rattle.commute_laws.proofs.ToTheEnd.{below_at_first}
use Rattle.commute_laws.proofs.laws.pairs_stay_below.Goals as goal

pub returns-clause-begins : goal.returns-clause-begins
returns-clause-begins g c = λ region console sound console_ok sound_ok.
    below_at_first region (g.C.Machine.valid region) (g.S.Machine.valid region) g.C.Machine.MOST g.S.Machine.MOST g.C.Machine.moves g.S.Machine.moves
    ((g.met.C.Machine g.world.𝓛 g.world.𝓜 g.world.𝓡 ((λ s x. x), (λ x. x), (λ x. x), λ x. x)).lawful region)
    ((g.met.S.Machine g.world.𝓛 g.world.𝓜 g.world.𝓡 ((λ s x. x), (λ x. x), (λ x. x), λ x. x)).lawful region)
    console sound console_ok sound_ok

pub returns-clause-console : goal.returns-clause-console
returns-clause-console g c = λ region console sound console_ok sound_ok end h s on below lt got.
    console_below_next region (g.C.Machine.valid region) (g.S.Machine.valid region) g.C.Machine.MOST g.S.Machine.MOST g.C.Machine.moves g.S.Machine.moves
    ((g.met.C.Machine g.world.𝓛 g.world.𝓜 g.world.𝓡 ((λ s x. x), (λ x. x), (λ x. x), λ x. x)).lawful region)
    ((g.met.S.Machine g.world.𝓛 g.world.𝓜 g.world.𝓡 ((λ s x. x), (λ x. x), (λ x. x), λ x. x)).lawful region)
    console sound console_ok sound_ok end h s on below lt (history_after g.C.Machine.moves h got) refl

pub returns-clause-sound : goal.returns-clause-sound
returns-clause-sound g c = λ region console sound console_ok sound_ok end h s on below lt got.
    sound_below_next region (g.C.Machine.valid region) (g.S.Machine.valid region) g.C.Machine.MOST g.S.Machine.MOST g.C.Machine.moves g.S.Machine.moves
    ((g.met.C.Machine g.world.𝓛 g.world.𝓜 g.world.𝓡 ((λ s x. x), (λ x. x), (λ x. x), λ x. x)).lawful region)
    ((g.met.S.Machine g.world.𝓛 g.world.𝓜 g.world.𝓡 ((λ s x. x), (λ x. x), (λ x. x), λ x. x)).lawful region)
    console sound console_ok sound_ok end h s on below lt (history_after g.S.Machine.moves s got) refl

pub returns-clause-alone : goal.returns-clause-alone
returns-clause-alone g c = λ region console sound console_ok sound_ok.
    heard_below region (g.C.Machine.valid region) (g.S.Machine.valid region) g.C.Machine.MOST g.S.Machine.MOST g.C.Machine.moves g.S.Machine.moves
    ((g.met.C.Machine g.world.𝓛 g.world.𝓜 g.world.𝓡 ((λ s x. x), (λ x. x), (λ x. x), λ x. x)).lawful region)
    ((g.met.S.Machine g.world.𝓛 g.world.𝓜 g.world.𝓡 ((λ s x. x), (λ x. x), (λ x. x), λ x. x)).lawful region)
    console sound console_ok sound_ok
