use Rattle.std.proofs.Common.{ap, sym, subst, ◌∙◌, ◌≤◌, length}
use mathlib.Core.Logic.{∥∥₁_map}
use Rattle.console_machine.specs.Parts.{value_of}
use Rattle.console_machine.specs.Playing.{rest_with_room, console_with_room}
use Rattle.console_machine.proofs.Copies.{copied}
use Rattle.console_machine.proofs.side.ConsoleSide.copy_into.Goals as goal

pub invariant_of-into : goal.invariant_of-into
invariant_of-into c =
    let v = value_of c.self.inside.parts in
    let n = c.into.inside.parts.bus.script.room in
    let there = c.copy_waiting.new.into in
    let same = ap (λ r. record v { rest = r; waiting = there.items }) c.copy_into.ensures.same ∙ ap (λ b. record v { rest = rest_with_room v.rest n; waiting = b.items }) c.copy_waiting.ensures in (
      ∥∥₁_map c.self.invariant.0 (λ p. (console_with_room p.0 n, copied v (record v { rest = c.copy_into.new.into; waiting = there.items }) n p.0 same p.1)),
      ap (λ b. b.capacity) c.copy_waiting.ensures ∙ c.self.invariant.1,
      subst (λ m. m ≤ 65536) (sym (ap (λ b. length b.items) c.copy_waiting.ensures)) c.self.invariant.2,
    )
