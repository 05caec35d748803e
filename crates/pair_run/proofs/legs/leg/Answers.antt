use Rattle.std.proofs.Common.{◌-◌, ◌≤◌, refl, sym, ◌∙◌, subst, rules, arith}
use Rattle.std.proofs.lemmas.Grind.{common_steps}
use Rattle.clock_ratio.specs.Stamp.{window_of}
use Rattle.pair_run.specs.Leg.{IfHeldBack, IsSpent}
use Rattle.pair_run.specs.Tried.{call_of}
use Rattle.pair_run.proofs.LegGoesOn.{leg_begins}
use Rattle.pair_run.proofs.Refusals.{none_risen, risen_less, of_refusal, held_is_no_drain, held_is_not_done}
use Rattle.pair_run.proofs.Rows.{row_goes_on, rise_goes_on, row_spent}
use Rattle.pair_run.proofs.WaySteps.{run_then, run_waits}
use Rattle.pair_run.proofs.legs.leg.Goals as goal

pub steps-init : goal.steps-init
steps-init g c =
    let wire = g.W.Wire in
    let M = g.M.Machine in
    let seen = wire.seen c.args.pass.now in
    record {
      still_of = c.requires.of;
      side = refl;
      beside = c.requires.ready.beside;
      room = omega (arith, c.requires.ready.room);
      ran = record {
        from = leg_begins seen.side M.moves (window_of (wire.region_of c.args.wire.now)) c.args.end (M.stands c.args.machine.now) seen.half (M.waiting c.args.machine.now);
      };
      few = omega arith;
      risen = λ n from. from;
      in_row = λ any. absurd (omega (arith, any));
    }

pub steps-preserved-in-Ok : goal.steps-preserved-in-Ok
steps-preserved-in-Ok g c =
    let wire = g.W.Wire in
    let M = g.M.Machine in
    let region = wire.region_of c.args.wire.now in
    let first = wire.seen c.args.pass.now in
    let old = wire.seen c.steps.pass in
    let new = wire.seen c.run_on.new.pass in
    let begun = c.args.machine.now in
    let here = c.steps.machine in
    let to = c.run_on.new.machine in
    let was = c.steps.invariant in
    let run = c.run_on.ensures in
    let tried = run.tried in
    record {
      still_of = run.still_of;
      side = run.side ∙ was.side;
      beside = record { same_region = run.same_region ∙ was.beside.same_region; clock = tried.clock; reach = tried.reach };
      room = tried.room;
      ran = run_then region first.side M.moves c.args.end (M.stands begun) (M.stands here) (M.stands to) first.half old.half new.half (M.waiting begun) (M.waiting here) (M.waiting to)
          was.ran M.MOST M.CAP (M.stamp_of here) (M.stamp_of to) old.side was.side tried;
      few = omega arith;
      risen = λ n from. tried.counted n (risen_less (c.steps.tried - 1) n old.half.tally.refused old.half.tally.refused (was.risen n from) refl);
      in_row = λ any. absurd (omega (arith, any));
    }

pub returns-then-tried-tries-clause-made : goal.returns-then-tried-tries-clause-made
returns-then-tried-tries-clause-made g c =
    let wire = g.W.Wire in
    let M = g.M.Machine in
    let first = wire.seen c.args.pass.now in
    let old = wire.seen c.steps.pass in
    let new = wire.seen c.run_on.new.pass in
    let begun = c.args.machine.now in
    let here = c.steps.machine in
    let to = c.run_on.new.machine in
    let was = c.steps.invariant in
    let run = c.run_on.ensures in
    let tried = run.tried in
    let held = c.in-Err.ensures.held in
    let any : 1 ≤ c.steps.tried = omega (arith, c.if-tried-tries.true, c.requires.tries) in
    record {
      side = run.side ∙ was.side;
      beside = record { same_region = run.same_region ∙ was.beside.same_region; clock = tried.clock; reach = tried.reach };
      room = tried.room;
      ran = run_then (wire.region_of c.args.wire.now) first.side M.moves c.args.end (M.stands begun) (M.stands here) (M.stands to) first.half old.half new.half
          (M.waiting begun) (M.waiting here) (M.waiting to) was.ran M.MOST M.CAP (M.stamp_of here) (M.stamp_of to) old.side was.side tried;
      done = grind (arith, common_steps, held_is_not_done);
      drain = (
        λ is. absurd (held_is_no_drain c.in-Err.late (sym c.held_back.ensures ∙ is)),
        λ full. absurd (full.1 (omega (arith, tried.silent (omega (arith, held.still)), c.ready.ensures.0 c.if-ready.true))),
      );
      spent = λ m stands.
          subst (λ e. IfHeldBack e (λ late. IsSpent (call_of (M.moves.act m)) (M.stamp_of to) late c.args.tries first.half new.half)) (sym c.held_back.ensures)
          (of_refusal c.in-Err.late (λ late. IsSpent (call_of (M.moves.act m)) (M.stamp_of to) late c.args.tries first.half new.half)
          (row_spent M.moves (M.stands here) (M.stands to) (M.stamp_of here) (M.stamp_of to) old.half new.half c.in-Err.late held c.steps.tried c.args.tries first.half m stands
          c.stamp.ensures.stands (omega (arith, c.ranges.tries.fits)) c.requires.tries (omega (arith, c.if-tried-tries.true, was.few)) (was.in_row any)
          (was.risen first.half.tally.refused (none_risen first.half.tally.refused))));
    }

pub steps-preserved : goal.steps-preserved
steps-preserved g c =
    let wire = g.W.Wire in
    let M = g.M.Machine in
    let region = wire.region_of c.args.wire.now in
    let first = wire.seen c.args.pass.now in
    let old = wire.seen c.steps.pass in
    let mid = wire.seen c.run_on.new.pass in
    let new = wire.seen c.pause.new.pass in
    let begun = c.args.machine.now in
    let here = c.steps.machine in
    let to = c.run_on.new.machine in
    let was = c.steps.invariant in
    let run = c.run_on.ensures in
    let tried = run.tried in
    let told = c.pause.ensures.told in
    let held = c.in-Err.ensures.held in
    let at = c.stamp-in-Err.ensures.stamp in
    let ran = run_then region first.side M.moves c.args.end (M.stands begun) (M.stands here) (M.stands to) first.half old.half mid.half (M.waiting begun) (M.waiting here) (M.waiting to)
    was.ran M.MOST M.CAP (M.stamp_of here) (M.stamp_of to) old.side was.side tried in
    record {
      still_of = c.pause.ensures.still_of;
      side = c.pause.ensures.side ∙ run.side ∙ was.side;
      beside = record { same_region = run.same_region ∙ was.beside.same_region; clock = omega (arith, told.clock, at); reach = omega (arith, told.reach, at) };
      room = tried.room;
      ran = run_waits region first.side M.moves c.args.end (M.stands begun) (M.stands to) (M.stands to) first.half mid.half new.half (M.waiting begun) (M.waiting to) (M.waiting to)
          ran told.hears told.mine;
      few = omega (arith, c.if-tried-tries.false);
      risen = rise_goes_on M.moves (M.stands here) (M.stands to) (M.stamp_of here) (M.stamp_of to) old.half mid.half c.in-Err.late held c.steps.tried first.half.tally.refused new.half
          c.stamp.ensures.stands was.risen tried.counted told.counted c.pause.ensures.same;
      in_row = λ any. row_goes_on M.moves (M.stands here) (M.stands to) (M.stamp_of here) (M.stamp_of to) old.half mid.half c.in-Err.late held c.steps.tried new.half
          c.stamp.ensures.stands (omega (arith, c.if-tried-tries.false, c.ranges.tries.fits)) was.in_row c.pause.ensures.same;
    }

pub returns-then-stamp-end-clause-made : goal.returns-then-stamp-end-clause-made
returns-then-stamp-end-clause-made g c =
    let wire = g.W.Wire in
    let M = g.M.Machine in
    let first = wire.seen c.args.pass.now in
    let begun = c.args.machine.now in
    let to = c.steps.machine in
    let was = c.steps.invariant in
    let told = c.publish.ensures.told in
    record {
      side = c.publish.ensures.side ∙ was.side;
      beside = record { same_region = was.beside.same_region; clock = omega (arith, told.clock); reach = omega (arith, told.reach) };
      room = was.room;
      ran = run_waits (wire.region_of c.args.wire.now) first.side M.moves c.args.end (M.stands begun) (M.stands to) (M.stands to) first.half (wire.seen c.steps.pass).half
          (wire.seen c.publish.new.pass).half (M.waiting begun) (M.waiting to) (M.waiting to) was.ran told.hears told.mine;
      done = search rules;
      drain = (λ is. grind (arith, common_steps), λ full. refl);
      spent = search rules;
    }

pub returns-else-stamp-end-clause-made : goal.returns-else-stamp-end-clause-made
returns-else-stamp-end-clause-made g c =
    let wire = g.W.Wire in
    let M = g.M.Machine in
    let first = wire.seen c.args.pass.now in
    let begun = c.args.machine.now in
    let to = c.steps.machine in
    let was = c.steps.invariant in
    let told = c.publish.ensures.told in
    record {
      side = c.publish.ensures.side ∙ was.side;
      beside = record { same_region = was.beside.same_region; clock = omega (arith, told.clock); reach = omega (arith, told.reach) };
      room = was.room;
      ran = run_waits (wire.region_of c.args.wire.now) first.side M.moves c.args.end (M.stands begun) (M.stands to) (M.stands to) first.half (wire.seen c.steps.pass).half
          (wire.seen c.publish.new.pass).half (M.waiting begun) (M.waiting to) (M.waiting to) was.ran told.hears told.mine;
      done = search rules;
      drain = (λ is. search rules, λ full. search rules);
      spent = search rules;
    }
