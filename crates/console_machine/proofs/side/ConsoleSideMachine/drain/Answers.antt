use Rattle.std.proofs.Common.{rules, ◌≡◌, ◌≤◌, ℕ, List, length, drop, length-drop, ap, arith}
use mathlib.Core.Logic.{∥∥₁_map}
use Rattle.console_machine.proofs.side.ConsoleSideMachine.drain.Goals as goal

-- what is left of a list is no longer than it
shorter : (n : ℕ) (xs ys : List ℕ) → xs ≡ drop n ys → length ys ≤ 65536 → length xs ≤ 65536
shorter n xs ys e h =
    let same = ap length e in
    let dropped = length-drop n ys in
    omega arith

pub invariant_of-self : goal.invariant_of-self
invariant_of-self c = (
  ∥∥₁_map c.self.invariant.0 (λ p. (p.0, record { at = p.1.at; stamp = p.1.stamp; console = p.1.console })),
  search rules,
  shorter c.read_into.result c.read_into.new.self.items c.self.inside.parts.waiting.items (ap (λ b. b.items) c.read_into.ensures.items) c.self.invariant.2,
)
