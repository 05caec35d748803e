use Rattle.frame_rows.specs.Played.{IsConsole}
use Rattle.frame_rows.proofs.played.Played.first_wrong.Given as goal

abbrev pub invariant-loop-k : goal.invariant-loop-k
invariant-loop-k l = IsConsole l.self
