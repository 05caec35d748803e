use Rattle.std.proofs.Common.{◌≡◌, ℕ, ◌<◌, length, slice_index}
use Rattle.console_bus.proofs.happenings.darken.Given as goal

-- the dots so far are black
abbrev pub invariant-loop-e : goal.invariant-loop-e
invariant-loop-e l = (length l.dots ≡ 512) × ((k : ℕ) → k < l.e → slice_index l.dots k ≡ 0)
