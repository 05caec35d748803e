-- Each pixel before the loop's is mixed, and each other as it was.
use Rattle.std.proofs.Common.{◌≡◌, ℕ, ◌<◌, ◌≤◌, ◌==◌, not, get_or}
use Rattle.scanline_ops.specs.RankedPixels.{is_named, is_found}
use Rattle.color_window.specs.Mixing.{mixed}
use Rattle.color_window.proofs.mixing.mix_each.Given as goal

abbrev pub invariant-loop-x : goal.invariant-loop-x
invariant-loop-x l = record {
  done : (k : ℕ) → k < l.x → get_or l.main k 0 ≡
      mixed l.m (not (get_or l.inside k 0 == 0)) (get_or l.initial.main k 0)
      (is_named (get_or l.keys k 0)) (is_found (get_or l.sub_keys k 0)) (get_or l.sub k 0);
  rest : (k : ℕ) → l.x ≤ k → get_or l.main k 0 ≡ get_or l.initial.main k 0;
}
