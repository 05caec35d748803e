-- A step of the console over the ports behind it.
use Rattle.std.specs.Prelude.{◌≡◌, ℕ, ◌<◌, ◌≤◌, List, ◌++◌}
use Rattle.snes_defs.specs.declared.ports.Act.{Act}
use Rattle.snes_defs.specs.declared.region.Region.{Region}
use Rattle.clock_ratio.specs.Stamp.{least_of}
use Rattle.side_law.specs.Moves.{taken}
use Rattle.side_law.specs.declared.ports.Stop.{Stop}
use Rattle.side_law.specs.Gone.{Calls, Times, IsAnswered, IsOnWay, HasGone}
use Rattle.console_steps.specs.ConsoleState.{ConsoleState, act_of, due_of, console_after, bytes_after}
use Rattle.console_steps.specs.ConsoleState.{console_moves}
use Rattle.console_machine.specs.Side.{ConsoleValue, StandsAt}

-- ports of this clock and these times may be called from a stamp on and before another, by the steps of a console of
-- the region
abbrev pub AreReady : ℕ → Times → ℕ → ℕ → Region → Type 0
AreReady clock times stamp until region = (clock ≤ stamp) × (until ≤ times.before) × (times.rise ≤ least_of region)

-- the console's next step, begun at a stamp, by its act, over ports in a state: what it got, and what it left and
-- emitted by that
pub record HasTaken {Ports : Type 0} (calls : Calls Ports) (at : ℕ) (act : Act) (new : ConsoleValue)
    (stand : Ports → Type 0) (waited waits : List ℕ) (w : ConsoleState) (p : Ports) : Type 0 where
  pub got : ℕ
  pub small : got < 256
  pub ports : Ports
  pub ports_stand : stand ports
  pub answered : IsAnswered calls at act got p ports
  pub now_stands : StandsAt new (console_after w (due_of w) (taken (act_of w.rest (due_of w)) got))
  pub waits_is : waits ≡ waited ++ bytes_after w (due_of w) (taken (act_of w.rest (due_of w)) got)

module _ {Ports : Type 0} (calls : Calls Ports) (until : ℕ) where
  -- from a console and ports, steps over the ports led to these
  abbrev pub LeadsOver : ConsoleValue → ConsoleValue → (Ports → Type 0) → (Ports → Type 0) → Type 0
  LeadsOver old new stood stand = (w : ConsoleState) (p : Ports) → StandsAt old w → stood p
      → IsOnWay console_moves calls until (StandsAt new) stand old.waiting new.waiting w p

  -- and there they stopped
  abbrev pub StopsOver : Stop → ConsoleValue → ConsoleValue → (Ports → Type 0) → (Ports → Type 0) → Type 0
  StopsOver stop old new stood stand = (w : ConsoleState) (p : Ports) → StandsAt old w → stood p
      → HasGone console_moves calls until 1024 65536 (StandsAt new) stand old.waiting new.waiting stop w p
