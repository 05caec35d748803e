-- Each pixel before the loop's is mixed, and each other as it was.
use Rattle.std.proofs.Common.{◌≡◌, ℕ, ◌<◌, ◌≤◌, Bool, get_or, if◌then◌else◌}
use Rattle.scanline_ops.specs.RankedPixels.{is_found}
use Rattle.color_window.specs.Mixing.{mixed, is_mixed}
use Rattle.color_window.proofs.mixing.mix_marked_each.Given as goal

abbrev pub invariant-loop-x : goal.invariant-loop-x
invariant-loop-x l = record {
  done : (k : ℕ) → k < l.x → (inside named : Bool) → get_or l.marks k 0 ≡ (if is_mixed l.m inside named then 1 else 0) →
      get_or l.main k 0 ≡ mixed l.m inside (get_or l.initial.main k 0) named (is_found (get_or l.sub_keys k 0)) (get_or l.sub k 0);
  rest : (k : ℕ) → l.x ≤ k → get_or l.main k 0 ≡ get_or l.initial.main k 0;
}
