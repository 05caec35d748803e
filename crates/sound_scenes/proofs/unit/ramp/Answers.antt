use Rattle.std.proofs.Common.{◌≤◌, arith, lit≤, rules}
use Rattle.std.proofs.lemmas.List.Elements.{All-set, All-replicate}
use Rattle.sound_scenes.proofs.unit.ramp.Goals as goal

pub numbers-init : goal.numbers-init
numbers-init c = record { whole = search rules; small = All-replicate (λ n. n ≤ 2047) 512 0 (lit≤ tt) }

pub numbers-preserved : goal.numbers-preserved
numbers-preserved c = record { whole = search rules; small = All-set (λ n. n ≤ 2047) _ _ _ (omega arith) c.numbers.invariant.small }
