use Rattle.std.proofs.Common.{◌≡◌}
use Rattle.audio_side.specs.FromParts.{written_below}
use Rattle.audio_side.proofs.from_parts.written.Given as goal

-- the registers below this one were written
abbrev pub invariant-registers : goal.invariant-registers
invariant-registers l = l.voices ≡ written_below l.dsp l.reg
