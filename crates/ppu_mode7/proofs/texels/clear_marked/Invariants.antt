-- Each place before the loop's is done.
use Rattle.std.proofs.Common.{◌≡◌, ℕ, ◌<◌, ◌≤◌, ◌==◌, get_or, if◌then◌else◌}
use Rattle.ppu_mode7.proofs.texels.clear_marked.Given as goal

abbrev pub invariant-loop-c : goal.invariant-loop-c
invariant-loop-c l = record {
  done : (k : ℕ) → k < l.c → get_or l.row k 0 ≡ (if get_or l.marks k 0 == 0 then get_or l.initial.row k 0 else 0);
  rest : (k : ℕ) → l.c ≤ k → get_or l.row k 0 ≡ get_or l.initial.row k 0;
}
