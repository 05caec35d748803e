-- Each place before the loop's is done.
use Rattle.std.proofs.Common.{◌≡◌, ℕ, ◌<◌, ◌==◌, get_or, if◌then◌else◌}
use Rattle.ppu_regs.specs.Dots.{rank_of}
use Rattle.ppu_mode7.specs.Rotated.{layer_dot_of}
use Rattle.ppu_mode7.proofs.rows.planes_of.Given as goal

abbrev pub invariant-loop-x : goal.invariant-loop-x
invariant-loop-x l = record {
  ranks : (k : ℕ) → k < l.x → get_or l.out.ranks k 0 ≡
      rank_of (if (layer_dot_of l.is_direct l.layer (get_or l.values k 0)).priority == 1 then l.high else l.low) (layer_dot_of l.is_direct l.layer (get_or l.values k 0));
  numbers : (k : ℕ) → k < l.x → get_or l.out.numbers k 0 ≡ (layer_dot_of l.is_direct l.layer (get_or l.values k 0)).number;
}
