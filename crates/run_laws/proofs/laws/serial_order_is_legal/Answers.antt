use Rattle.run_laws.proofs.SerialOrder.{follows}
use Rattle.run_laws.proofs.laws.serial_order_is_legal.Goals as goal

pub returns-clause-legal : goal.returns-clause-legal
returns-clause-legal g c = λ region console sound console_ok sound_ok turns.
    (follows region (g.C.Machine.valid region) (g.S.Machine.valid region) g.C.Machine.MOST g.S.Machine.MOST g.C.Machine.moves g.S.Machine.moves
    ((g.met.C.Machine g.world.𝓛 g.world.𝓜 g.world.𝓡 ((λ s x. x), (λ x. x), (λ x. x), λ x. x)).lawful region)
    ((g.met.S.Machine g.world.𝓛 g.world.𝓜 g.world.𝓡 ((λ s x. x), (λ x. x), (λ x. x), λ x. x)).lawful region)
    console sound console_ok sound_ok turns).legal

pub returns-clause-leads : goal.returns-clause-leads
returns-clause-leads g c = λ region console sound console_ok sound_ok turns.
    let f = follows region (g.C.Machine.valid region) (g.S.Machine.valid region) g.C.Machine.MOST g.S.Machine.MOST g.C.Machine.moves g.S.Machine.moves
    ((g.met.C.Machine g.world.𝓛 g.world.𝓜 g.world.𝓡 ((λ s x. x), (λ x. x), (λ x. x), λ x. x)).lawful region)
    ((g.met.S.Machine g.world.𝓛 g.world.𝓜 g.world.𝓡 ((λ s x. x), (λ x. x), (λ x. x), λ x. x)).lawful region)
    console sound console_ok sound_ok turns in
    (f.console_is, f.sound_is)
