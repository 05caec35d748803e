use Rattle.std.proofs.Common.{◌∙◌, ◌++◌, ℕ, ap}
use Rattle.audio_side.specs.HardwareState.{HardwareState}
use Rattle.audio_side.specs.Effect.{emitted, passed}
use Rattle.audio_side.specs.Parts.{value_of}
use Rattle.audio_side.specs.Stem.{stem_hardware}
use Rattle.audio_side.proofs.Stems.{sampling_is, stem_is}
use Rattle.audio_side.proofs.Moves.{bytes_emitted, next_stands}
use Rattle.audio_side.proofs.parts.Parts.step_apart.Goals as goal

pub returns-clause-next : goal.returns-clause-next
returns-clause-next c =
    λ m h. next_stands (value_of c.args.self.now) _ m c.args.got h c.begin.ensures.processor
    (λ s stands. c.finish.ensures.hardware ∙ ap (λ (n : ℕ). passed n c.begin.new.hardware) c.number-cycle.ensures.value ∙ ap (λ (b : HardwareState). passed c.args.self.now.clock.cycle b) (c.begin.ensures.hardware s stands))
    c.go_on.ensures

pub returns-clause-emits : goal.returns-clause-emits
returns-clause-emits c =
    λ m h. bytes_emitted (value_of c.args.self.now) _ m h
    (λ s stands. c.finish.ensures.waiting ∙ ap (λ (n : ℕ). c.args.self.now.waiting.items ++ emitted n c.begin.new.hardware) c.number-cycle.ensures.value ∙ ap (λ (b : HardwareState). c.args.self.now.waiting.items ++ emitted c.args.self.now.clock.cycle b) (c.begin.ensures.hardware s stands))

pub returns-clause-stem : goal.returns-clause-stem
returns-clause-stem c = λ m h sampling.
    stem_is (value_of c.args.self.now) _ c.args.stem m h
    (λ s stands. c.stem_bytes-bytes.ensures (sampling_is (value_of c.args.self.now) _ m h c.number-cycle.ensures.value sampling)
    ∙ ap (λ (n : ℕ). emitted n (stem_hardware c.args.stem c.begin.new.hardware)) c.number-cycle.ensures.value
    ∙ ap (λ (b : HardwareState). emitted c.args.self.now.clock.cycle (stem_hardware c.args.stem b)) (c.begin.ensures.hardware s stands))
