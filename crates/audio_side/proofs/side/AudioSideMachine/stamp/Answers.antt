use Rattle.std.proofs.Common.{refl}
use mathlib.Core.Logic.{∥∥₁_map}
use Rattle.audio_side.proofs.side.AudioSideMachine.stamp.Goals as goal

pub returns-clause-stands : goal.returns-clause-stands
returns-clause-stands c =
    ∥∥₁_map c.running.ensures (λ p. (record { processor = p.0; hardware = c.args.self.now.hardware; clock = c.args.self.now.clock }, record { processor = p.1; hardware = refl; clock = refl }))
