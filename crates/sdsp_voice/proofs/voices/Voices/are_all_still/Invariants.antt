use Rattle.std.proofs.Common.{◌<◌, ℕ}
use Rattle.sdsp_voice.specs.Sample.{IsStill}
use Rattle.sdsp_voice.proofs.voices.Voices.are_all_still.Given as goal

abbrev pub invariant-voices : goal.invariant-voices
invariant-voices l = (k : ℕ) → k < l.v → IsStill l.self k
