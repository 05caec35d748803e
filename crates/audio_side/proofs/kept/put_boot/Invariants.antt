use Rattle.std.proofs.Common.{◌≡◌, length}
use Rattle.audio_side.specs.Kept.{under_boot}
use Rattle.audio_side.proofs.kept.put_boot.Given as goal

-- the bytes below this one were put
abbrev pub invariant-bytes : goal.invariant-bytes
invariant-bytes l = record { put : l.into ≡ under_boot l.initial.into l.boot l.n; size : length l.into ≡ 65536 }
