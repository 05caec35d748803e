use Rattle.std.proofs.Common.{◌≡◌}
use Rattle.sdsp_voice.specs.Brr.{decoded_times}
use Rattle.sdsp_voice.proofs.brr.decode_times.Given as goal

abbrev pub invariant-samples : goal.invariant-samples
invariant-samples l = l.voice ≡ decoded_times l.ram l.entry l.counter l.fn.voice
