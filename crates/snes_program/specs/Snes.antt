-- Words of the contract of `snes`, over the answer, the words and what the shelf shows before and after.
use Rattle.std.specs.Prelude.{◌≡◌, ◌⊎◌, ℕ, ◌<◌, ◌≤◌, List}
use Rattle.shelf.specs.declared.shelves.Out.TheVariants as out
use Rattle.shelf.specs.Told.{HasRisen}
use Rattle.shelf.specs.Shown.{Shown}
use Rattle.run_io.specs.Form.{Order}
use Rattle.run_io.specs.Lists.{AllOf, FirstThat}
use Rattle.snes_commands.specs.declared.status.Why.{Why}
use Rattle.snes_commands.specs.declared.status.Status.{Status}
use Rattle.snes_commands.specs.declared.status.Status.TheVariants.{Ok, Usage, LoadFault, Refused, WriteFault, NoMemory, Differs}
use Rattle.snes_commands.specs.Loads.{told_in, TellsAccepted, TellsRefused, HasFailed}
use Rattle.snes_commands.specs.Command.{Command}
use Rattle.snes_commands.specs.Ends.{due_of, IsBegun}

-- the answer of a command that was done, by some line (Ok, if it compares nothing), or want of memory in its place
abbrev pub OrNoMemory : Command → Status → Type 0
OrNoMemory command status = ((line : List ℕ) × (status ≡ due_of command line)) ⊎ (status ≡ NoMemory)

-- The answers in the order of the work: that on the words comes first, those on inputs and memory before the first
-- creation; then those on outputs; those on the line at last.
abbrev pub stage_of : Status → ℕ
stage_of Usage = 0
stage_of (LoadFault input) = 1
stage_of (Refused cause) = 1
stage_of NoMemory = 1
stage_of (WriteFault out.Say) = 3
stage_of (WriteFault failed) = 2
stage_of Ok = 3
stage_of Differs = 3

-- the answer comes before any output is created; after all inputs were accepted; after all outputs were written
abbrev pub IsEarly : Status → Type 0
IsEarly status = stage_of status < 2

abbrev pub IsLate : Status → Type 0
IsLate status = 2 ≤ stage_of status

abbrev pub IsOver : Status → Type 0
IsOver status = 3 ≤ stage_of status

module _ (command : Command) (order : Order) (before : Shown) where
  -- the first input that isn't accepted is told, and refused so; those before it are told too
  abbrev pub IsDue : Why → Type 0
  IsDue cause = FirstThat (TellsAccepted (told_in before order.pairs)) (TellsRefused (told_in before order.pairs) cause) command.form.inputs

  -- a fault of loading an input before which all are told and accepted, or want of memory
  abbrev pub IsFaultBefore : Status → Type 0
  IsFaultBefore (LoadFault failed) = FirstThat (TellsAccepted (told_in before order.pairs)) (λ input. failed ≡ input) command.form.inputs
  IsFaultBefore NoMemory = Unit {0}
  IsFaultBefore _ = ⊥

  module _ (after : Shown) where
    -- the outputs that were created before the answer came were begun: all of them, or those before the one that failed
    abbrev pub AreBegun : Status → Type 0
    AreBegun Ok = AllOf (IsBegun command order before after) command.form.outputs
    AreBegun Differs = AllOf (IsBegun command order before after) command.form.outputs
    AreBegun (WriteFault out.Say) = AllOf (IsBegun command order before after) command.form.outputs
    AreBegun (WriteFault failed) = FirstThat (IsBegun command order before after) (λ one. one ≡ failed) command.form.outputs
    AreBegun _ = Unit {0}

    -- all that a command loads is told and accepted, and no fault was counted of what it loads or writes
    pub record IsClean : Type 0 where
      pub inputs : AllOf (TellsAccepted (told_in before order.pairs)) command.form.inputs
      pub loads : AllOf (λ input. ¬ HasFailed order.pairs before after input) command.form.inputs
      pub outputs : AllOf (λ one. ¬ HasRisen (before.write_faults one) (after.write_faults one)) command.form.outputs
      pub line : ¬ HasRisen (before.write_faults out.Say) (after.write_faults out.Say)
