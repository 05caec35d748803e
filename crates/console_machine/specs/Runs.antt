-- Many steps of the console in one call: quiet ones that emit nothing, told by the clocks that they last together; and
-- those among them that only look, of which a round can be gone again.
use Rattle.std.specs.Prelude.{◌≡◌, ℕ, zero, suc, ◌+◌, []}
use Rattle.cpu65816.specs.declared.processor.Cpu.{Cpu}
use Rattle.cpu65816.specs.Instruction.{next_of}
use Rattle.beam.specs.Events.{passed}
use Rattle.console_bus.specs.BusState.{BusState}
use Rattle.console_steps.specs.ConsoleState.{ConsoleState, access_clocks, due_of, console_after}
use Rattle.console_steps.specs.ConsoleState.{overscan_of}
use Rattle.console_steps.specs.Stands.{IsAt}
use Rattle.console_steps.specs.Plain.{IsCalm, IsLook}
use Rattle.whole_instructions.specs.Passes.{QuietSteps}
use Rattle.console_machine.specs.SideLaws.{IsAfter}

-- so many quiet steps lead from a console state to another, and emit nothing
abbrev pub SilentWorlds : ℕ → ConsoleState → ConsoleState → Type 0
SilentWorlds n w to = QuietSteps n w to

-- such steps lead from a console state to one at which processor and bus are, and last so many clocks
pub record HasRun (cpu : Cpu) (bus : BusState) (w : ConsoleState) (clocks : ℕ) : Type 0 where
  pub steps : ℕ
  pub to : ConsoleState
  pub run : SilentWorlds steps w to
  pub at : IsAt cpu bus to
  pub after : IsAfter w to clocks

-- ---- steps that only look

-- the clocks of the processor's next access
abbrev pub clocks_next : ConsoleState → ℕ
clocks_next w = access_clocks (next_of w.processor) w.rest.io.fast

-- the next step is an access that only looks, in whose clocks nothing happens
pub record IsLookStep (w : ConsoleState) : Type 0 where
  pub calm : IsCalm w.rest
  pub look : IsLook w.rest (next_of w.processor)
  pub nothing : passed (overscan_of w) w.rest.beam (clocks_next w) ≡ []

-- after steps that lead to some console state in some clocks comes one that only looks
pub record LooksLast (Leads : ConsoleState → ℕ → Type 0) (to : ConsoleState) (clocks : ℕ) : Type 0 where
  pub mid : ConsoleState
  pub before : ℕ
  pub run : Leads mid before
  pub step : IsLookStep mid
  pub next : console_after mid (due_of mid) 0 ≡ to
  pub sum : clocks ≡ before + clocks_next mid

-- so many steps that only look lead from a console state to another, and last so many clocks
abbrev pub LookSteps : ℕ → ConsoleState → ConsoleState → ℕ → Type 0
LookSteps zero w to clocks = (w ≡ to) × (clocks ≡ 0)
LookSteps (suc n) w to clocks = LooksLast (λ mid before. LookSteps n w mid before) to clocks

-- they lead to a console state at which processor and bus are
pub record LooksTo (cpu : Cpu) (bus : BusState) (w : ConsoleState) (clocks : ℕ) : Type 0 where
  pub steps : ℕ
  pub to : ConsoleState
  pub run : LookSteps steps w to clocks
  pub at : IsAt cpu bus to

-- the clocks of so many rounds
abbrev pub rounds_of : ℕ → ℕ → ℕ
rounds_of zero round = 0
rounds_of (suc n) round = rounds_of n round + round

-- so many clocks are some rounds, of so many clocks each
pub record IsRounds (round clocks : ℕ) : Type 0 where
  pub number : ℕ
  pub times : clocks ≡ rounds_of number round
