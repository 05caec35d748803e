use Rattle.std.proofs.Common.{◌≡◌, ◌+◌, ◌*◌, ◌++◌, length}
use Rattle.state_file.specs.Bytes.{words_below}
use Rattle.state_file.proofs.bytes.StateBytes.add_words.Given as goal

-- the words before this one were put
abbrev pub invariant-words : goal.invariant-words
invariant-words l = record {
  bytes : l.self.bytes ≡ l.initial.self.bytes ++ words_below l.words l.n;
  size : length l.self.bytes ≡ length l.initial.self.bytes + 2 * l.n;
  room : l.self.room ≡ l.initial.self.room;
}
