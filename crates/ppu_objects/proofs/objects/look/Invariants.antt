-- The objects before the loop's are marked, twice.
use Rattle.std.proofs.Common.{◌≡◌, ℕ, ◌+◌, ◌<◌, get_or}
use Rattle.ppu_objects.specs.Near.{near_mark}
use Rattle.ppu_objects.proofs.objects.look.Given as goal

abbrev pub invariant-loop-n : goal.invariant-loop-n
invariant-loop-n l = record {
  marked : (k : ℕ) → k < l.n → get_or l.near k 0 ≡ near_mark l.tall l.row (get_or l.tops k 0);
  again : (k : ℕ) → k < l.n → get_or l.near (k + 128) 0 ≡ near_mark l.tall l.row (get_or l.tops k 0);
}
