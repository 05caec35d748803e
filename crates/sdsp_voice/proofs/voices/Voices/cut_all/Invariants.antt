use Rattle.std.proofs.Common.{◌≡◌}
use Rattle.sdsp_voice.specs.Sample.{cut_below}
use Rattle.sdsp_voice.proofs.voices.Voices.cut_all.Given as goal

abbrev pub invariant-cuts : goal.invariant-cuts
invariant-cuts l = l.self ≡ record l.initial.self { voices = cut_below l.ram l.initial.self.voices l.v }
