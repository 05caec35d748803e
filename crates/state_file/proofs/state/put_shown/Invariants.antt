use Rattle.std.proofs.Common.{◌≡◌, ◌+◌, ◌++◌, length}
use Rattle.state_file.specs.Bytes.{shown_below}
use Rattle.state_file.proofs.state.put_shown.Given as goal

-- what the registers below this one show was put
abbrev pub invariant-registers : goal.invariant-registers
invariant-registers l = record {
  bytes : l.to.bytes ≡ l.initial.to.bytes ++ shown_below l.sound.hardware.voices l.register;
  size : length l.to.bytes ≡ length l.initial.to.bytes + l.register;
  room : l.to.room ≡ l.initial.to.room;
}
