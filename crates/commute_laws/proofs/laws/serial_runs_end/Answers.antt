use Rattle.commute_laws.proofs.laws.serial_runs_end.Goals as goal
use Rattle.side_law.specs.Serial.{serial_of}
use Rattle.side_law.proofs.SerialKeeps.{serving_at_first}
use Rattle.side_law.proofs.SerialRuns.{run_ends, same_output}

pub returns-clause-ends : goal.returns-clause-ends
returns-clause-ends g c = λ region console sound console_ok sound_ok end.
    run_ends region (g.C.Machine.valid region) (g.S.Machine.valid region) g.C.Machine.MOST g.S.Machine.MOST g.C.Machine.moves g.S.Machine.moves
    ((g.met.C.Machine g.world.𝓛 g.world.𝓜 g.world.𝓡 ((λ s x. x), (λ x. x), (λ x. x), λ x. x)).lawful region)
    ((g.met.S.Machine g.world.𝓛 g.world.𝓜 g.world.𝓡 ((λ s x. x), (λ x. x), (λ x. x), λ x. x)).lawful region)
    (serial_of console sound) end (serving_at_first (g.C.Machine.valid region) (g.S.Machine.valid region) console sound console_ok sound_ok)

pub returns-clause-once : goal.returns-clause-once
returns-clause-once g c = same_output g.C.Machine.moves g.S.Machine.moves
