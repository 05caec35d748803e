use Rattle.std.proofs.Common.{◌<◌, ◌≤◌, length, refl, ◌∙◌, arith}
use mathlib.Core.Logic.{∥∥₁_elim}
use Rattle.std.proofs.Math.Bridge.{le_prop}
use Rattle.std.proofs.Math.Nat.{ℕ_set}
use Rattle.audio_side.specs.Clock.{stamp_now}
use Rattle.spc_player.specs.Player.{at}
use Rattle.spc_player.proofs.Steps.{room_before, room_free, run_few, run_goes_on, run_plays, run_stamp, run_starts, run_waits, stands_at}
use Rattle.spc_player.proofs.player.run_before.Goals as goal

pub steps-init : goal.steps-init
steps-init c = record {
  run = λ w n h near. run_starts (at c.args.side.now c.args.ports) w n h;
  first = refl;
  hold = refl;
  ntsc = c.requires.ntsc;
}

pub steps-smaller : goal.steps-smaller
steps-smaller c =
    let from = at c.args.side.now c.args.ports in
    let before : stamp_now c.steps.side.clock < c.args.end = omega (arith, c.steps-test.true, c.stamp.ensures.stamp) in
    let few : length c.steps.side.waiting ≤ 512 = ∥∥₁_elim c.stamp-begun.ensures.stands le_prop
    (λ q. let s = stands_at c.args.side.now c.args.ports q.0 q.1 in
    let near = c.requires.near s.0 s.1 in
    room_before from (at c.steps.side c.steps.bytes.incoming) s.0 c.args.end near.0 c.requires.ntsc s.1 near.1 (c.steps.invariant.run s.0 near.0 s.1 near.1) before c.requires.room) in
    let up = c.lead_by-stop.ensures.goes_on (omega (arith, before, c.requires.early, c.steps.invariant.first)) before
    (room_free c.steps.bytes (length c.steps.side.waiting) (stamp_now c.steps.side.clock) c.steps.invariant.hold few (omega (arith, before, c.requires.early))) (omega (arith, few)) in
    omega (arith, up, before)

pub steps-preserved : goal.steps-preserved
steps-preserved c = record {
  run = λ w n h near.
      run_goes_on (at c.args.side.now c.args.ports) (at c.steps.side c.steps.bytes.incoming) w c.args.end n c.requires.ntsc h near (c.steps.invariant.run w n h near)
      c.lead_by-stop.new.machine c.steps.bytes.first c.lead_by-stop.new.bytes.incoming c.lead_by-stop.new.bytes.outgoing c.steps.bytes.outgoing c.lead_by-stop.ensures.made;
  first = c.lead_by-stop.ensures.first ∙ c.steps.invariant.first;
  hold = c.lead_by-stop.ensures.hold ∙ c.steps.invariant.hold;
  ntsc = c.lead_by-stop.ensures.region ∙ c.steps.invariant.ntsc;
}

pub returns-clause-next : goal.returns-clause-next
returns-clause-next c = λ w n h near.
    run_plays (at c.args.side.now c.args.ports) (at c.steps.side c.steps.bytes.incoming) w c.args.end n c.requires.ntsc h near (c.steps.invariant.run w n h near)
    (omega (arith, c.steps-test.false, c.stamp.ensures.stamp))

pub returns-clause-emits : goal.returns-clause-emits
returns-clause-emits c = λ w n h near.
    run_waits (at c.args.side.now c.args.ports) (at c.steps.side c.steps.bytes.incoming) w c.args.end n c.requires.ntsc h near (c.steps.invariant.run w n h near)
    (omega (arith, c.steps-test.false, c.stamp.ensures.stamp))

pub returns-clause-stamp : goal.returns-clause-stamp
returns-clause-stamp c = ∥∥₁_elim c.stamp-begun.ensures.stands (ℕ_set _ _)
    (λ q. let s = stands_at c.args.side.now c.args.ports q.0 q.1 in
    let near = c.requires.near s.0 s.1 in
    run_stamp (at c.args.side.now c.args.ports) (at c.steps.side c.steps.bytes.incoming) s.0 c.args.end near.0 c.requires.ntsc s.1 near.1 (c.steps.invariant.run s.0 near.0 s.1 near.1)
    (omega (arith, c.steps-test.false, c.stamp.ensures.stamp)))

pub returns-clause-few : goal.returns-clause-few
returns-clause-few c = ∥∥₁_elim c.stamp-begun.ensures.stands le_prop
    (λ q. let s = stands_at c.args.side.now c.args.ports q.0 q.1 in
    let near = c.requires.near s.0 s.1 in
    run_few (at c.args.side.now c.args.ports) (at c.steps.side c.steps.bytes.incoming) s.0 c.args.end near.0 c.requires.ntsc s.1 near.1 (c.steps.invariant.run s.0 near.0 s.1 near.1)
    (omega (arith, c.steps-test.false, c.stamp.ensures.stamp)))
