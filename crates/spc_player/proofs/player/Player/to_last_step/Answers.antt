use Rattle.std.proofs.Common.{◌≡◌, ◌∙◌, ◌≤◌, ◌++◌, ℕ, List, [], length, ap, arith}
use mathlib.Core.Logic.{∥∥₁_elim}
use Rattle.std.proofs.Math.Bridge.{le_prop}
use Rattle.std.proofs.lemmas.List.{nil_from_length}
use Rattle.spc_player.specs.Play.{output}
use Rattle.spc_player.specs.Player.{at, waiting_of}
use Rattle.spc_player.proofs.StemSteps.{before, last_is_near}
use Rattle.spc_player.proofs.Steps.{cycle_of, silent, stands_at, start_is}
use Rattle.spc_player.proofs.player.Player.to_last_step.Goals as goal

pub run_before-self-inside-requires-clause-near : goal.run_before-self-inside-requires-clause-near
run_before-self-inside-requires-clause-near c = λ w h. (
  before w,
  last_is_near w c.last_step-last.result
      (c.last_step-last.ensures.whole (cycle_of w) (start_is c.stamp.result (at c.self.inside.side c.self.inside.ports) w c.self.invariant h c.stamp.ensures.stamp)),
)

pub returns-clause-none : goal.returns-clause-none
returns-clause-none c =
    let side = c.self.inside.side in
    let ports = c.self.inside.ports in
    let after = c.run_before-self-inside.new.side.waiting in
    let none : length after ≤ 0 = ∥∥₁_elim c.stamp.ensures.stands le_prop
    (λ q. let s = stands_at side ports q.0 q.1 in
    let near = last_is_near s.0 c.last_step-last.result
    (c.last_step-last.ensures.whole (cycle_of s.0) (start_is c.stamp.result (at side ports) s.0 c.self.invariant s.1 c.stamp.ensures.stamp)) in
    let is : after ≡ [] = c.run_before-self-inside.ensures.emits s.0 (before s.0) s.1 near
    ∙ ap (λ (l : List ℕ). l ++ output s.0 (before s.0)) (ap waiting_of c.self.view_is ∙ c.requires.empty) ∙ silent s.0 (before s.0) (omega arith) in
    omega (arith, ap (length {A = ℕ}) is)) in
    nil_from_length _ (omega (arith, none))
