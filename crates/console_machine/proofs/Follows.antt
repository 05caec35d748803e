-- Accesses that follow one another: none, one, and some after others.
use Rattle.std.proofs.Common.{◌≡◌, ℕ, ◌+◌, ◌-◌, ◌<◌, sym, subst, arith}
use Rattle.cpu65816.specs.declared.processor.Cpu.{Cpu}
use Rattle.cpu65816.specs.Stands.{access_of}
use Rattle.beam.specs.Places.{clocks_left}
use Rattle.console_bus.specs.BusState.{BusState}
use Rattle.console_steps.specs.AtOnce.{IsMadeAtOnce}
use Rattle.console_steps.specs.Plain.{IsWired, IsCalm}
use Rattle.console_steps.proofs.Wires.{wired_then}
use Rattle.console_machine.specs.Runs.{HasRun}
use Rattle.console_machine.specs.Follows.{Follows}
use Rattle.console_machine.proofs.AtOnce.{is_step}
use Rattle.console_machine.proofs.Runs.{no_run, run_on, run_then}

pub follows_none : (cpu : Cpu) (bus : BusState) → Follows cpu cpu bus bus
follows_none cpu bus = record {
  left = omega arith;
  calm = λ h. h;
  come = λ w at line calm wired. (
      let none : clocks_left bus.beam - clocks_left bus.beam ≡ 0 = omega arith in
      let P : ℕ → Type 0 = λ n. HasRun cpu bus w n in
      record { run = subst P (sym none) (no_run cpu bus w at line); wired = wired });
}

-- nothing was made
pub follows_same : (cpu cpu' : Cpu) (bus bus' : BusState) → cpu' ≡ cpu → bus' ≡ bus → Follows cpu cpu' bus bus'
follows_same cpu cpu' bus bus' c b = rw (c, b) (follows_none cpu bus)

pub follows_one : (cpu cpu' : Cpu) (bus bus' : BusState) (clocks : ℕ) → (IsWired cpu bus → IsMadeAtOnce cpu cpu' bus bus' (access_of cpu) clocks)
    → clocks < clocks_left bus.beam → clocks_left bus'.beam ≡ clocks_left bus.beam - clocks → (IsCalm bus → IsCalm bus') → Follows cpu cpu' bus bus'
follows_one cpu cpu' bus bus' clocks made within left calm = record {
  left = omega (arith, left);
  calm = calm;
  come = λ w at line is_calm wired. (
      let sum : clocks_left bus.beam - clocks_left bus'.beam ≡ 0 + clocks = omega (arith, within, left) in
      let m = made wired in
      let h = no_run cpu bus w at line in
      record {
        run = run_on cpu cpu' bus bus' w 0 clocks _ h (is_step cpu cpu' bus bus' h.to clocks h.at m is_calm.reset is_calm.refresh is_calm.transfer) sum;
        wired = wired_then cpu cpu' bus bus' (access_of cpu) clocks w.processor m at.processor;
      });
}

pub follows_then : (a b c : Cpu) (x y z : BusState) → Follows a b x y → Follows b c y z → Follows a c x z
follows_then a b c x y z f g = record {
  left = (let first = f.left in let then = g.left in omega (arith, first, then));
  calm = λ h. g.calm (f.calm h);
  come = λ w at line is_calm wired. (
      let first = f.left in
      let then = g.left in
      let sum : clocks_left x.beam - clocks_left z.beam ≡ (clocks_left x.beam - clocks_left y.beam) + (clocks_left y.beam - clocks_left z.beam) = omega (arith, first, then) in
      let p = f.come w at line is_calm wired in
      let q = g.come p.run.to p.run.at p.run.after.line (f.calm is_calm) p.wired in
      record {
        run = run_then b c y z w (clocks_left x.beam - clocks_left y.beam) (clocks_left y.beam - clocks_left z.beam) _ p.run q.run sum;
        wired = q.wired;
      });
}
