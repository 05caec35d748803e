use Rattle.std.proofs.Common.{◌+◌, ◌<◌, ◌≤◌, ◌∙◌, refl, sym, subst, arith}
use Rattle.beam.specs.Places.{clocks_left}
use Rattle.console_bus.specs.BusState.{BusState}
use Rattle.console_machine.specs.PortAccesses.{RunsBefore, HeldBefore, stamp_before}
use Rattle.console_machine.proofs.PortAccesses.{rate_least, stamp_later, stamp_next, stamp_early, follows_before, access_before, run_none, run_following, run_accessing, run_refused}
use Rattle.console_machine.proofs.port_runs.make_over.Goals as goal

pub runs-init : goal.runs-init
runs-init g c =
    let P = g.P.Ports in
    record {
      run = run_none P.calls c.args.region c.args.goal c.args.cpu.now c.args.bus.now (P.stands c.args.ports.now);
      some = λ w h. (w, h);
      fewer = omega arith;
      in_order = c.requires.in_order;
      times = refl;
    }

pub returns-then-clocks_left-clause-made : goal.returns-then-clocks_left-clause-made
returns-then-clocks_left-clause-made g c = λ done.
    let P = g.P.Ports in
    run_following P.calls c.args.region c.args.goal c.args.cpu.now c.runs.cpu c.args.bus.now c.runs.bus (P.stands c.args.ports.now) (P.stands c.runs.ports) c.runs.invariant.run
    c.make_all.new.cpu c.make_all.new.bus c.make_all.ensures

pub returns-then-clocks_left-clause-some : goal.returns-then-clocks_left-clause-some
returns-then-clocks_left-clause-some g c = λ w h.
    let was = c.runs.invariant.some w h in
    follows_before c.args.region c.args.goal c.runs.cpu c.make_all.new.cpu c.runs.bus c.make_all.new.bus was.0 c.make_all.ensures was.1

pub returns-then-clocks_left-clause-fewer : goal.returns-then-clocks_left-clause-fewer
returns-then-clocks_left-clause-fewer g c = (let left = c.make_all.ensures.left in omega (arith, left, c.runs.invariant.fewer))

pub returns-then-clocks_left-clause-in_order : goal.returns-then-clocks_left-clause-in_order
returns-then-clocks_left-clause-in_order g c =
    let later = stamp_later c.args.region c.args.goal c.runs.bus c.make_all.new.bus c.make_all.ensures.left in
    omega (arith, later, c.runs.invariant.in_order)

pub returns-then-clocks_left-clause-times : goal.returns-then-clocks_left-clause-times
returns-then-clocks_left-clause-times g c = c.runs.invariant.times

-- the stamp of the next step is before the place
pub stamp_before-at-requires : goal.stamp_before-at-requires
stamp_before-at-requires g c =
    let left = c.make_all.ensures.left in
    let less = rate_least c.args.region (clocks_left c.make_all.new.bus.beam) (clocks_left c.args.bus.now.beam) (omega (arith, left, c.runs.invariant.fewer)) in
    omega (arith, less, c.requires.begun)

pub make_register-requires-clause-in_order : goal.make_register-requires-clause-in_order
make_register-requires-clause-in_order g c =
    let later = stamp_later c.args.region c.args.goal c.runs.bus c.make_all.new.bus c.make_all.ensures.left in
    omega (arith, later, c.runs.invariant.in_order, c.stamp_before-at.ensures)

pub make_register-requires-clause-in_time : goal.make_register-requires-clause-in_time
make_register-requires-clause-in_time g c =
    let P = g.P.Ports in
    let left = c.make_all.ensures.left in
    let less = rate_least c.args.region (clocks_left c.make_all.new.bus.beam) (clocks_left c.args.bus.now.beam) (omega (arith, left, c.runs.invariant.fewer)) in
    let early = stamp_early c.args.region c.args.goal c.make_all.new.bus (omega (arith, c.if-clocks_left.false, c.clocks_left.ensures.clocks)) (omega (arith, less, c.requires.begun)) in
    subst (λ t. c.stamp_before-at.result < t.before) (sym c.runs.invariant.times) (omega (arith, early, c.stamp_before-at.ensures, c.requires.in_time))

pub returns-in-Left-clause-made : goal.returns-in-Left-clause-made
returns-in-Left-clause-made g c = λ done.
    let P = g.P.Ports in
    let same = c.in-Left.ensures.left refl in
    let run = run_following P.calls c.args.region c.args.goal c.args.cpu.now c.runs.cpu c.args.bus.now c.runs.bus (P.stands c.args.ports.now) (P.stands c.runs.ports) c.runs.invariant.run
    c.make_all.new.cpu c.make_all.new.bus c.make_all.ensures in
    subst (λ x. RunsBefore P.calls c.args.region c.args.goal c.args.cpu.now x c.args.bus.now c.make_register.new.bus (P.stands c.args.ports.now) (P.stands c.make_register.new.ports)) (sym same.0)
    (subst (λ (x : BusState). RunsBefore P.calls c.args.region c.args.goal c.args.cpu.now c.make_all.new.cpu c.args.bus.now x (P.stands c.args.ports.now) (P.stands c.make_register.new.ports)) (sym same.1)
    (subst (λ x. RunsBefore P.calls c.args.region c.args.goal c.args.cpu.now c.make_all.new.cpu c.args.bus.now c.make_all.new.bus (P.stands c.args.ports.now) (P.stands x)) (sym same.2) run))

pub returns-in-Left-clause-some : goal.returns-in-Left-clause-some
returns-in-Left-clause-some g c = λ w h.
    let same = c.in-Left.ensures.left refl in
    let was = c.runs.invariant.some w h in
    rw (same.0, same.1) (follows_before c.args.region c.args.goal c.runs.cpu c.make_all.new.cpu c.runs.bus c.make_all.new.bus was.0 c.make_all.ensures was.1)

pub returns-in-Left-clause-fewer : goal.returns-in-Left-clause-fewer
returns-in-Left-clause-fewer g c =
    let left = c.make_all.ensures.left in
    let same = c.in-Left.ensures.left refl in
    subst (λ (x : BusState). clocks_left x.beam ≤ clocks_left c.args.bus.now.beam) (sym same.1) (omega (arith, left, c.runs.invariant.fewer))

pub returns-in-Left-clause-in_order : goal.returns-in-Left-clause-in_order
returns-in-Left-clause-in_order g c =
    let P = g.P.Ports in
    let same = c.in-Left.ensures.left refl in
    let later = stamp_later c.args.region c.args.goal c.runs.bus c.make_all.new.bus c.make_all.ensures.left in
    subst (λ x. P.clock x ≤ stamp_before c.args.region c.args.goal c.make_register.new.bus) (sym same.2)
    (subst (λ (x : BusState). P.clock c.runs.ports ≤ stamp_before c.args.region c.args.goal x) (sym same.1) (omega (arith, later, c.runs.invariant.in_order)))

pub returns-in-Left-clause-times : goal.returns-in-Left-clause-times
returns-in-Left-clause-times g c = c.make_register.ensures.times ∙ c.runs.invariant.times

pub returns-in-Refused-clause-refused : goal.returns-in-Refused-clause-refused
returns-in-Refused-clause-refused g c = λ held.
    let P = g.P.Ports in
    let same = c.in-Refused.ensures.stays refl in
    let run = run_following P.calls c.args.region c.args.goal c.args.cpu.now c.runs.cpu c.args.bus.now c.runs.bus (P.stands c.args.ports.now) (P.stands c.runs.ports) c.runs.invariant.run
    c.make_all.new.cpu c.make_all.new.bus c.make_all.ensures in
    let stopped = run_refused P.calls c.args.region c.args.goal c.args.cpu.now c.make_all.new.cpu c.args.bus.now c.make_all.new.bus (P.stands c.args.ports.now) (P.stands c.runs.ports) run
    c.stamp_before-at.result (P.stands c.make_register.new.ports) (omega (arith, c.if-clocks_left.false, c.clocks_left.ensures.clocks)) c.stamp_before-at.ensures
    (c.in-Refused.ensures.refused refl) in
    subst (λ x. HeldBefore P.calls c.args.region c.args.goal c.args.cpu.now x c.args.bus.now c.make_register.new.bus (P.stands c.args.ports.now) (P.stands c.make_register.new.ports)) (sym same.0)
    (subst (λ (x : BusState). HeldBefore P.calls c.args.region c.args.goal c.args.cpu.now c.make_all.new.cpu c.args.bus.now x (P.stands c.args.ports.now) (P.stands c.make_register.new.ports)) (sym same.1) stopped)

pub returns-in-Refused-clause-some : goal.returns-in-Refused-clause-some
returns-in-Refused-clause-some g c = λ w h.
    let same = c.in-Refused.ensures.stays refl in
    let was = c.runs.invariant.some w h in
    rw (same.0, same.1) (follows_before c.args.region c.args.goal c.runs.cpu c.make_all.new.cpu c.runs.bus c.make_all.new.bus was.0 c.make_all.ensures was.1)

pub returns-in-Refused-clause-fewer : goal.returns-in-Refused-clause-fewer
returns-in-Refused-clause-fewer g c =
    let left = c.make_all.ensures.left in
    let same = c.in-Refused.ensures.stays refl in
    subst (λ (x : BusState). clocks_left x.beam ≤ clocks_left c.args.bus.now.beam) (sym same.1) (omega (arith, left, c.runs.invariant.fewer))

pub returns-in-Refused-clause-times : goal.returns-in-Refused-clause-times
returns-in-Refused-clause-times g c = c.make_register.ensures.times ∙ c.runs.invariant.times

pub runs-preserved : goal.runs-preserved
runs-preserved g c =
    let P = g.P.Ports in
    let few : 6 < clocks_left c.make_all.new.bus.beam = omega (arith, c.if-clocks_left.false, c.clocks_left.ensures.clocks) in
    let left = c.make_all.ensures.left in
    let passed = c.in-Made.ensures.passed refl in
    let fewer = passed.left in
    record {
      run = run_accessing P.calls c.args.region c.args.goal c.args.cpu.now c.make_all.new.cpu c.args.bus.now c.make_all.new.bus (P.stands c.args.ports.now) (P.stands c.runs.ports)
          (run_following P.calls c.args.region c.args.goal c.args.cpu.now c.runs.cpu c.args.bus.now c.runs.bus (P.stands c.args.ports.now) (P.stands c.runs.ports) c.runs.invariant.run
          c.make_all.new.cpu c.make_all.new.bus c.make_all.ensures)
          c.make_register.new.cpu c.make_register.new.bus c.stamp_before-at.result (P.stands c.make_register.new.ports) few c.stamp_before-at.ensures passed (c.in-Made.ensures.made refl);
      some = λ w h.
          let was = c.runs.invariant.some w h in
          let then = follows_before c.args.region c.args.goal c.runs.cpu c.make_all.new.cpu c.runs.bus c.make_all.new.bus was.0 c.make_all.ensures was.1 in
          let step = c.in-Made.ensures.step refl in
          (_, access_before c.args.region c.args.goal c.make_all.new.cpu c.make_register.new.cpu c.make_all.new.bus c.make_register.new.bus then.0 step.0 then.1 few passed step.1);
      fewer = omega (arith, left, fewer, c.runs.invariant.fewer);
      in_order =
          let less = rate_least c.args.region (clocks_left c.make_all.new.bus.beam) (clocks_left c.args.bus.now.beam) (omega (arith, left, c.runs.invariant.fewer)) in
          let next = stamp_next c.args.region c.args.goal c.make_all.new.bus c.make_register.new.bus few passed (omega (arith, less, c.requires.begun)) in
          let clock = subst (λ t. P.clock c.make_register.new.ports ≤ c.stamp_before-at.result + t.rise) c.runs.invariant.times c.make_register.ensures.in_order in
          omega (arith, next, clock, c.stamp_before-at.ensures, c.requires.apart);
      times = c.make_register.ensures.times ∙ c.runs.invariant.times;
    }

pub returns-clause-made : goal.returns-clause-made
returns-clause-made g c = λ done. c.runs.invariant.run

pub returns-clause-some : goal.returns-clause-some
returns-clause-some g c = c.runs.invariant.some

pub returns-clause-fewer : goal.returns-clause-fewer
returns-clause-fewer g c = c.runs.invariant.fewer

pub returns-clause-in_order : goal.returns-clause-in_order
returns-clause-in_order g c = c.runs.invariant.in_order

pub returns-clause-times : goal.returns-clause-times
returns-clause-times g c = c.runs.invariant.times
