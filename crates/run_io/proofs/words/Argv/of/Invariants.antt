use Rattle.std.proofs.Common.{◌≡◌, ◌++◌, map, drop, string_bytes}
use Rattle.run_io.proofs.words.Argv.of.Given as goal

-- the words so far, and those of the texts that are left
abbrev pub invariant-loop-text : goal.invariant-loop-text
invariant-loop-text l = l.words ++ map string_bytes (drop l.text-index l.texts) ≡ map string_bytes l.texts
