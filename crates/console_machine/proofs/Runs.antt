-- Runs of silent steps: none, one more, one after another; and what they are of a machine.
use Rattle.std.proofs.Common.{◌≡◌, ℕ, zero, suc, ◌+◌, ◌*◌, ◌<◌, ◌≤◌, [], refl, sym, ap, subst, ◌∙◌, arith, add-zero}
use Rattle.snes_defs.specs.declared.region.Region.{Region}
use Rattle.snes_defs.specs.declared.region.Region.TheVariants.{Ntsc, Pal}
use Rattle.snes_defs.specs.declared.ports.Act.TheVariants.{Quiet}
use Rattle.snes_defs.specs.declared.ports.Side.TheVariants.{Console}
use Rattle.clock_ratio.specs.Stamp.{rate_of}
use Rattle.side_law.proofs.SilentSteps.{SilentSteps, silent_on}
use Rattle.cpu65816.specs.declared.processor.Cpu.{Cpu}
use Rattle.console_bus.specs.BusState.{BusState}
use Rattle.console_steps.specs.ConsoleState.{ConsoleState, act_of, due_of, console_after, bytes_after, region_of, console_moves}
use Rattle.console_steps.specs.Stands.{IsAt}
use Rattle.console_machine.specs.Side.{ConsoleValue, StandsAt}
use Rattle.console_machine.specs.SideLaws.{step_keeps, due_step}
use Rattle.console_machine.specs.AfterStep.{stamp_on, stamp_stands, goes_on}
use Rattle.console_machine.specs.Taken.{console_step_taken}
use Rattle.console_machine.specs.Runs.{SilentWorlds, HasRun}
use Rattle.console_machine.specs.Silent.{IsStepMade, IsSilent, IsSilentStep}

-- one silent step more
pub silent_more : (n : ℕ) (w to : ConsoleState) → SilentWorlds n w to → act_of to.rest (due_of to) ≡ Quiet → bytes_after to (due_of to) 0 ≡ []
    → SilentWorlds (suc n) w (console_after to (due_of to) 0)
silent_more zero w to same quiet none =
    let P : ConsoleState → Type 0 = λ x. SilentWorlds 1 x (console_after to (due_of to) 0) in
    subst P (sym same) (quiet, none, refl)
silent_more (suc n) w to (first, nothing, rest) quiet none = (first, nothing, silent_more n (console_after w (due_of w) 0) to rest quiet none)

-- silent steps after silent steps
pub silent_append : (n m : ℕ) (w mid to : ConsoleState) → SilentWorlds n w mid → SilentWorlds m mid to → (q : ℕ) × SilentWorlds q w to
silent_append zero m w mid to same then =
    let P : ConsoleState → Type 0 = λ x. SilentWorlds m x to in
    (m, subst P (sym same) then)
silent_append (suc n) m w mid to (first, nothing, rest) then =
    let more = silent_append n m (console_after w (due_of w) 0) mid to rest then in
    (suc more.0, (first, nothing, more.1))

pub no_run : (cpu : Cpu) (bus : BusState) (w : ConsoleState) → IsAt cpu bus w → w.rest.beam.h < 1364 → HasRun cpu bus w 0
no_run cpu bus w at line = record { steps = 0; to = w; run = refl; at = at; after = record { region = refl; line = line; clock = sym (add-zero w.clock) } }

-- a run and one step more
pub run_on : (cpu cpu' : Cpu) (bus bus' : BusState) (w : ConsoleState) (k c n : ℕ) → (h : HasRun cpu bus w k) → IsStepMade cpu' bus' h.to (due_of h.to) c → n ≡ k + c
    → HasRun cpu' bus' w n
run_on cpu cpu' bus bus' w k c n h m sum =
    let s = step_keeps h.to (due_of h.to) 0 h.after.line in
    let before = h.after.clock in
    let step = s.clock in
    let lasts = m.lasts in
    record {
      steps = suc h.steps;
      to = console_after h.to (due_of h.to) 0;
      run = silent_more h.steps w h.to h.run m.quiet m.none;
      at = m.at;
      after = record { region = s.region ∙ h.after.region; line = s.line; clock = omega (arith, before, step, lasts, sum) };
    }

-- a run after a run
pub run_then : (cpu cpu' : Cpu) (bus bus' : BusState) (w : ConsoleState) (j k n : ℕ) → (h : HasRun cpu bus w j) → HasRun cpu' bus' h.to k → n ≡ j + k → HasRun cpu' bus' w n
run_then cpu cpu' bus bus' w j k n h then sum =
    let all = silent_append h.steps then.steps w h.to then.to h.run then.run in
    let before = h.after.clock in
    let step = then.after.clock in
    record {
      steps = all.0;
      to = then.to;
      run = all.1;
      at = then.at;
      after = record { region = then.after.region ∙ h.after.region; line = then.after.line; clock = omega (arith, before, step, sum) };
    }

-- ---- by stamps

clock_later : (n : ℕ) (w to : ConsoleState) → w.rest.beam.h < 1364 → SilentWorlds n w to → w.clock ≤ to.clock
clock_later zero w to line same =
    let e : w.clock ≡ to.clock = ap (λ (x : ConsoleState). x.clock) same in
    omega (arith, e)
clock_later (suc n) w to line (first, nothing, rest) =
    let s = step_keeps w (due_of w) 0 line in
    let step = s.clock in
    let later = clock_later n (console_after w (due_of w) 0) to s.line rest in
    omega (arith, step, later)

less_in : (r : Region) (c d before : ℕ) → c < d → rate_of r Console * d ≤ before → rate_of r Console * c < before
less_in Ntsc c d before less stop = omega (arith, less, stop)
less_in Pal c d before less stop = omega (arith, less, stop)

stamp_before : (r a : Region) (c d before : ℕ) → a ≡ r → c < d → rate_of r Console * d ≤ before → rate_of a Console * c < before
stamp_before r a c d before e less stop =
    let P : Region → Type 0 = λ x. rate_of x Console * c < before in
    subst P (sym e) (less_in r c d before less stop)

-- a run that ends by a stamp is one of the machine before that stamp
to_silent : (before : ℕ) (n : ℕ) (w to : ConsoleState) (r : Region) → w.rest.beam.h < 1364 → SilentWorlds n w to → region_of w ≡ r
    → rate_of r Console * to.clock ≤ before → SilentSteps console_moves before n w to
to_silent before zero w to r line run region stop = run
to_silent before (suc n) w to r line (first, nothing, rest) region stop =
    let s = step_keeps w (due_of w) 0 line in
    let d = due_step (due_of w) w.rest.io.fast in
    let step = s.clock in
    let least = d.least in
    let later = clock_later n (console_after w (due_of w) 0) to s.line rest in
    let less : w.clock < to.clock = omega (arith, step, least, later) in (
      first,
      stamp_before r (region_of w) w.clock to.clock before region less stop,
      nothing,
      to_silent before n (console_after w (due_of w) 0) to r s.line rest (s.region ∙ region) stop,
    )

run_stands : (v x : ConsoleValue) (w : ConsoleState) (k : ℕ) → StandsAt v w → (g : HasRun x.cpu x.rest w k) → x.region ≡ v.region
    → x.stamp ≡ v.stamp + rate_of v.region Console * k → StandsAt x g.to
run_stands v x w k h g region stamp = record {
  at = g.at;
  stamp = stamp_on v.region x.region v.stamp x.stamp w.clock g.to.clock k region stamp h.stamp g.after.clock;
  console = record { region = g.after.region ∙ h.console.region ∙ sym region; line = g.after.line };
}

pub run_is_silent : (v x : ConsoleValue) (w : ConsoleState) (k before : ℕ) → StandsAt v w → HasRun x.cpu x.rest w k → x.region ≡ v.region
    → x.stamp ≡ v.stamp + rate_of v.region Console * k → x.stamp ≤ before → IsSilent before x w
run_is_silent v x w k before h g region stamp early =
    let now = run_stands v x w k h g region stamp in
    let P : ℕ → Type 0 = λ s. s ≤ before in
    record {
      steps = g.steps;
      to = g.to;
      now_stands = now;
      silent = to_silent before g.steps w g.to x.region h.console.line g.run (h.console.region ∙ sym region) (subst P now.stamp early);
    }

-- a step that was made is one of the machine
pub silent_step : (v x : ConsoleValue) (w : ConsoleState) (n : ℕ) → StandsAt v w → IsStepMade x.cpu x.rest w (due_of w) n → x.region ≡ v.region
    → x.stamp ≡ v.stamp + rate_of v.region Console * n → IsSilentStep x w
silent_step v x w n h m region stamp =
    let P : ConsoleState → Type 0 = λ y. StandsAt x y in
    record { quiet = m.quiet; none = m.none; now_stands = subst P (console_step_taken w (due_of w) 0) (goes_on v x w 0 n h m.at region stamp m.lasts) }

-- no step, and one more
pub silent_none : (before : ℕ) (v : ConsoleValue) (w : ConsoleState) → StandsAt v w → IsSilent before v w
silent_none before v w h = record { steps = 0; to = w; now_stands = h; silent = refl }

pub silent_next : (before : ℕ) (v x : ConsoleValue) (w : ConsoleState) (h : IsSilent before v w) → v.stamp < before → IsSilentStep x h.to → IsSilent before x w
silent_next before v x w h early made =
    let is = stamp_stands v h.to h.now_stands in
    record {
      steps = suc h.steps;
      to = console_after h.to (due_of h.to) 0;
      now_stands = made.now_stands;
      silent = silent_on console_moves before h.steps w h.to h.silent made.quiet (omega (arith, is, early)) made.none;
    }

pub run_keeps : (v x : ConsoleValue) (w : ConsoleState) (k : ℕ) → StandsAt v w → HasRun x.cpu x.rest w k → x.region ≡ v.region
    → x.stamp ≡ v.stamp + rate_of v.region Console * k → (u : ConsoleState) × StandsAt x u
run_keeps v x w k h g region stamp = (g.to, run_stands v x w k h g region stamp)
