use Rattle.std.proofs.Common.{◌≡◌}
use Rattle.sdsp_voice.specs.Keys.{keyed_below}
use Rattle.sdsp_voice.proofs.voices.Voices.take_all_keys.Given as goal

abbrev pub invariant-keys : goal.invariant-keys
invariant-keys l = l.self ≡ record l.initial.self { voices = keyed_below l.ram l.initial.self l.off l.on l.v }
