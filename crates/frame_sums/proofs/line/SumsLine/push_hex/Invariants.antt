use Rattle.std.proofs.Common.{◌≡◌, ◌+◌, ◌*◌, ◌++◌, length, drop}
use Rattle.frame_sums.specs.Text.{hex_text}
use Rattle.frame_sums.proofs.line.SumsLine.push_hex.Given as goal

-- the digits so far, and those of the bytes that are left
abbrev pub invariant-loop-byte : goal.invariant-loop-byte
invariant-loop-byte l = record {
  text : l.self ++ hex_text (drop l.byte-index l.digest) ≡ l.initial.self ++ hex_text l.digest;
  longer : length l.self ≡ length l.initial.self + 2 * l.byte-index;
}
