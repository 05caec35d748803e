-- Whole instructions among the accesses of a run.
use Rattle.std.proofs.Common.{◌≡◌, ℕ, zero, suc, ◌<◌, refl, subst, ◌∙◌}
use Rattle.cpu65816.specs.declared.processor.Cpu.{Cpu}
use Rattle.console_bus.specs.BusState.{BusState}
use Rattle.console_steps.specs.ConsoleState.{ConsoleState, due_of, console_after, region_of}
use Rattle.whole_instructions.specs.Passes.{QuietSteps}
use Rattle.whole_instructions.specs.Runs.{GoesWhole}
use Rattle.console_machine.specs.SideLaws.{step_keeps}
use Rattle.console_machine.specs.Follows.{Follows}
use Rattle.console_machine.proofs.Follows.{follows_then}

-- a console state of the same region, with the beam on a line
record IsOnLine (w to : ConsoleState) : Type 0 where
  pub region : region_of to ≡ region_of w
  pub line : to.rest.beam.h < 1364

steps_keep : (n : ℕ) (w to : ConsoleState) → w.rest.beam.h < 1364 → QuietSteps n w to → IsOnLine w to
steps_keep zero w to line same =
    let P : ConsoleState → Type 0 = λ x. IsOnLine w x in
    subst P same (record { region = refl; line = line })
steps_keep (suc n) w to line (quiet, none, rest) =
    let s = step_keeps w (due_of w) 0 line in
    let on = steps_keep n (console_after w (due_of w) 0) to s.line rest in
    record { region = on.region ∙ s.region; line = on.line }

pub whole_follows : (cpu cpu' : Cpu) (bus bus' : BusState) → GoesWhole cpu cpu' bus bus' → Follows cpu cpu' bus bus'
whole_follows cpu cpu' bus bus' g = record {
  left = g.left;
  calm = g.calm;
  come = λ w at line calm wired. (
      let t = g.come w at calm wired in
      let on = steps_keep t.steps w t.to line t.run in
      record {
        run = record { steps = t.steps; to = t.to; run = t.run; at = t.at; after = record { region = on.region; line = on.line; clock = t.clock } };
        wired = t.wired;
      });
}

-- whole instructions, and accesses after them
pub whole_then : (a b c : Cpu) (x y z : BusState) → GoesWhole a b x y → Follows b c y z → Follows a c x z
whole_then a b c x y z g f = follows_then a b c x y z (whole_follows a b x y g) f
