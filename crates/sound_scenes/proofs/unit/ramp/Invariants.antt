use Rattle.std.proofs.Common.{◌≡◌, ◌≤◌, length, All}
use Rattle.sound_scenes.proofs.unit.ramp.Given as goal

abbrev pub invariant-numbers : goal.invariant-numbers
invariant-numbers l = record { whole : length l.numbers ≡ 512; small : All (λ n. n ≤ 2047) l.numbers }
