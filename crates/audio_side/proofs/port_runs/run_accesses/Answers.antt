use Rattle.std.proofs.Common.{rules, ◌-◌, ◌+◌, ◌≤◌, refl, sym, subst, arith}
use Rattle.std.proofs.lemmas.Grind.{common_steps}
use Rattle.audio_side.specs.HardwareState.{HardwareState}
use Rattle.audio_side.specs.PortRuns.{PortRun, IsHeld}
use Rattle.audio_side.proofs.Follows.{follows_runs}
use Rattle.audio_side.proofs.Runs.{halted_run}
use Rattle.audio_side.proofs.PortRuns.{run_held, run_made, run_none, run_plainly, stamp_next}
use Rattle.audio_side.proofs.port_runs.run_accesses.Goals as goal

pub returns-then-is_halted-clause-made : goal.returns-then-is_halted-clause-made
returns-then-is_halted-clause-made g c = λ done until waits s p free stands stand.
    let P = g.P.Ports in
    let most = c.args.left.now in
    let spc = c.args.spc.now in
    let b = c.args.hardware.now in
    let none = run_none P.calls until c.args.clock.now waits s b p spc (P.stands c.args.ports.now) stands stand in
    run_plainly P.calls until c.args.clock.now waits s b p spc spc b b 0 most (most - 0) most (P.stands c.args.ports.now) none
    (halted_run most spc b none.to (c.if-is_halted.ensures.inner refl) (c.if-is_halted.ensures.stays refl) none.stands) (omega arith) (omega arith) free

pub accesses-preserved : goal.accesses-preserved
accesses-preserved g c = record {
  run = λ until waits s p free stands stand.
      let P = g.P.Ports in
      let most = c.args.left.now in
      let k = c.args.clock.now in
      let was = c.accesses.invariant.run until waits s p free stands stand in
      let fewer = c.make_all.ensures.fewer in
      let quietly = run_plainly P.calls until k waits s c.args.hardware.now p c.accesses.spc c.make_all.new.spc c.accesses.hardware c.make_all.new.hardware
      (most - c.accesses.left) (c.accesses.left - c.make_all.new.left) (most - c.make_all.new.left) most (P.stands c.accesses.ports) was (c.make_all.ensures.come was.to was.stands)
      (omega (arith, fewer, c.accesses.invariant.fewer)) (omega arith) free in
      let made = c.in-Made.ensures.made refl quietly.to quietly.ports quietly.stands quietly.ports_stand in
      run_made P.calls until k waits s c.args.hardware.now p c.make_all.new.spc c.make_any.new.spc c.make_all.new.hardware c.make_any.new.hardware
      c.stamp_after.result (most - c.make_all.new.left) (most - (c.make_all.new.left - 1)) (P.stands c.accesses.ports) (P.stands c.make_any.new.ports) quietly made c.stamp_after.ensures
      (omega (arith, fewer, c.accesses.invariant.fewer, c.if-left-eq0.false)) (free (most - c.make_all.new.left) (omega (arith, fewer, c.accesses.invariant.fewer, c.if-left-eq0.false)));
  fewer = grind (arith, common_steps);
  in_order =
      let most = c.args.left.now in
      let next = stamp_next c.args.clock.now (most - c.make_all.new.left) (most - (c.make_all.new.left - 1)) _ c.requires.apart
      (omega (arith, c.make_all.ensures.fewer, c.accesses.invariant.fewer, c.if-left-eq0.false)) in
      let P = g.P.Ports in
      let clock = subst (λ t. P.clock c.make_any.new.ports ≤ c.stamp_after.result + t.rise) c.accesses.invariant.times c.make_any.ensures.in_order in
      omega (arith, next, clock, c.stamp_after.ensures);
  times = search rules;
  runs = λ runs. c.make_any.ensures.runs (
      follows_runs c.accesses.spc c.make_all.new.spc c.accesses.hardware c.make_all.new.hardware c.accesses.left c.make_all.new.left c.make_all.ensures (c.accesses.invariant.runs runs)
      );
}

pub returns-then-left-eq0-clause-made : goal.returns-then-left-eq0-clause-made
returns-then-left-eq0-clause-made g c = λ done until waits s p free stands stand.
    let P = g.P.Ports in
    let most = c.args.left.now in
    let was = c.accesses.invariant.run until waits s p free stands stand in
    run_plainly P.calls until c.args.clock.now waits s c.args.hardware.now p c.accesses.spc c.make_all.new.spc c.accesses.hardware c.make_all.new.hardware
    (most - c.accesses.left) (c.accesses.left - c.make_all.new.left) (most - c.make_all.new.left) most (P.stands c.accesses.ports) was (c.make_all.ensures.come was.to was.stands)
    (omega (arith, c.make_all.ensures.fewer, c.accesses.invariant.fewer)) (omega arith) free

pub returns-then-left-eq0-clause-runs : goal.returns-then-left-eq0-clause-runs
returns-then-left-eq0-clause-runs g c = λ runs.
    follows_runs c.accesses.spc c.make_all.new.spc c.accesses.hardware c.make_all.new.hardware c.accesses.left c.make_all.new.left c.make_all.ensures (c.accesses.invariant.runs runs)

pub returns-in-Left-clause-made : goal.returns-in-Left-clause-made
returns-in-Left-clause-made g c = λ done until waits s p free stands stand.
    let P = g.P.Ports in
    let most = c.args.left.now in
    let k = c.args.clock.now in
    let n = most - c.make_all.new.left in
    let was = c.accesses.invariant.run until waits s p free stands stand in
    let quietly = run_plainly P.calls until k waits s c.args.hardware.now p c.accesses.spc c.make_all.new.spc c.accesses.hardware c.make_all.new.hardware
    (most - c.accesses.left) (c.accesses.left - c.make_all.new.left) n most (P.stands c.accesses.ports) was (c.make_all.ensures.come was.to was.stands)
    (omega (arith, c.make_all.ensures.fewer, c.accesses.invariant.fewer)) (omega arith) free in
    let same = c.in-Left.ensures.left refl in
    subst (λ x. PortRun P.calls until x c.make_any.new.hardware k n (λ to. P.stands c.make_any.new.ports) waits s c.args.hardware.now p) (sym same.0)
    (subst (λ (x : HardwareState). PortRun P.calls until c.make_all.new.spc x k n (λ to. P.stands c.make_any.new.ports) waits s c.args.hardware.now p) (sym same.1)
    (subst (λ x. PortRun P.calls until c.make_all.new.spc c.make_all.new.hardware k n (λ to. P.stands x) waits s c.args.hardware.now p) (sym same.2) quietly))

pub returns-in-Left-clause-runs : goal.returns-in-Left-clause-runs
returns-in-Left-clause-runs g c = λ runs. c.make_any.ensures.runs (
    follows_runs c.accesses.spc c.make_all.new.spc c.accesses.hardware c.make_all.new.hardware c.accesses.left c.make_all.new.left c.make_all.ensures (c.accesses.invariant.runs runs)
    )

pub returns-in-Refused-clause-refused : goal.returns-in-Refused-clause-refused
returns-in-Refused-clause-refused g c = λ held until waits s p free stands stand.
    let P = g.P.Ports in
    let most = c.args.left.now in
    let k = c.args.clock.now in
    let n = most - c.make_all.new.left in
    let was = c.accesses.invariant.run until waits s p free stands stand in
    let quietly = run_plainly P.calls until k waits s c.args.hardware.now p c.accesses.spc c.make_all.new.spc c.accesses.hardware c.make_all.new.hardware
    (most - c.accesses.left) (c.accesses.left - c.make_all.new.left) n most (P.stands c.accesses.ports) was (c.make_all.ensures.come was.to was.stands)
    (omega (arith, c.make_all.ensures.fewer, c.accesses.invariant.fewer)) (omega arith) free in
    let same = c.in-Refused.ensures.stays refl in
    let stopped = run_held P.calls until k waits s c.args.hardware.now p c.make_all.new.spc c.make_all.new.hardware c.stamp_after.result n (P.stands c.accesses.ports) (P.stands c.make_any.new.ports)
    quietly c.stamp_after.ensures (c.in-Refused.ensures.refused refl quietly.to quietly.stands) in
    subst (λ x. PortRun P.calls until x c.make_any.new.hardware k n (IsHeld P.calls k n (P.stands c.make_any.new.ports)) waits s c.args.hardware.now p) (sym same.0)
    (subst (λ (x : HardwareState). PortRun P.calls until c.make_all.new.spc x k n (IsHeld P.calls k n (P.stands c.make_any.new.ports)) waits s c.args.hardware.now p) (sym same.1) stopped)

pub returns-in-Refused-clause-runs : goal.returns-in-Refused-clause-runs
returns-in-Refused-clause-runs g c = λ runs. c.make_any.ensures.runs (
    follows_runs c.accesses.spc c.make_all.new.spc c.accesses.hardware c.make_all.new.hardware c.accesses.left c.make_all.new.left c.make_all.ensures (c.accesses.invariant.runs runs)
    )
