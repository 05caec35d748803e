-- The first slivers are drawn in turn.
use Rattle.std.proofs.Common.{◌≡◌, ℕ, ◌+◌, ◌<◌, take, fold, get_or}
use Rattle.ppu_objects.specs.Slivers.{painted, nothing}
use Rattle.ppu_objects.specs.Ranks.{object_rank}
use Rattle.ppu_objects.proofs.rows.paint_all.Given as goal

abbrev pub invariant-loop-i : goal.invariant-loop-i
invariant-loop-i l = record {
  ranks : (x : ℕ) → x < 256 → get_or l.ranks (x + 8) 0 ≡
      object_rank l.bases l.named (fold (painted l.p l.row x) nothing (take l.i l.slivers));
  numbers : (x : ℕ) → x < 256 → get_or l.numbers (x + 8) 0 ≡ (fold (painted l.p l.row x) nothing (take l.i l.slivers)).number;
}
