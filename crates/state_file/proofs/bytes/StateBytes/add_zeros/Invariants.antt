use Rattle.std.proofs.Common.{◌≡◌, ◌+◌, ◌++◌, length}
use Rattle.state_file.specs.Bytes.{zeros}
use Rattle.state_file.proofs.bytes.StateBytes.add_zeros.Given as goal

-- that many zeros were put
abbrev pub invariant-zeros : goal.invariant-zeros
invariant-zeros l = record {
  bytes : l.self.bytes ≡ l.initial.self.bytes ++ zeros l.n;
  size : length l.self.bytes ≡ length l.initial.self.bytes + l.n;
  room : l.self.room ≡ l.initial.self.room;
}
