-- How a command has ended, by its answer, and what it leaves. Whether its outputs stand whole, or one of them was begun,
-- is said here alone.
use Rattle.std.specs.Prelude.{◌≡◌, ◌≢◌, ◌⊎◌, ℕ, ◌≤◌, Bool, true, not, ◌&&◌, if◌then◌else◌, List, [], ◌∷◌, Option, IfSome}
use Rattle.std.specs.List.{list_any}
use Rattle.shelf.specs.declared.shelves.Out.{Out}
use Rattle.shelf.specs.declared.shelves.Out.TheVariants.{Say}
use Rattle.shelf.specs.Outs.{same_out}
use Rattle.shelf.specs.Told.{Holds, HasRisen}
use Rattle.shelf.specs.Shown.{Shown, IsUntouched, IsPassedOver, IsCreated, IsKept, OnlyPuts}
use Rattle.run_io.specs.Words.{output_name}
use Rattle.run_io.specs.Form.{Order}
use Rattle.run_io.specs.Lists.{AllOf, FirstThat}
use Rattle.snes_commands.specs.declared.status.Status.{Status}
use Rattle.snes_commands.specs.declared.status.Status.TheVariants.{Ok, Usage, LoadFault, Refused, WriteFault, NoMemory, Differs}
use Rattle.snes_commands.specs.Loads.{told_in, ShowsAccepted, EndsInputs}
use Rattle.snes_commands.specs.Command.{Command, CanMake, HoldsWhole, HoldsFirst}
use Rattle.snes_commands.specs.Wish.{Wish, Nothing, Asks}
use Rattle.snes_commands.specs.Said.{IsSaid, Says}
use Rattle.snes_commands.specs.Status.{refusal_of}

-- outputs that a command may create: not that of the lines, and each just once
abbrev pub are_apart : List Out → Bool
are_apart [] = true
are_apart (out ∷ outs) = not (same_out out Say) && (not (list_any (same_out out) outs) && are_apart outs)

-- of the outputs these alone were changed; what is held stays, and no count of faults falls, those of loads stay
pub record OnlyTouches (outputs : List Out) (before after : Shown) : Type 0 where
  pub held : after.held ≡ before.held
  pub load_faults : after.load_faults ≡ before.load_faults
  pub write_faults : (any : Out) → before.write_faults any ≤ after.write_faults any
  pub others : (other : Out) → AllOf (λ out. out ≢ other) outputs → IsPassedOver before after other

-- the answer of a command that was done, by its line: Ok, or that what it compared differs
abbrev pub due_of : Command → List ℕ → Status
due_of command line = if command.differs line then Differs else Ok

-- no output but that of the lines was changed, nor was one tried
abbrev pub OnlySays : Shown → Shown → Type 0
OnlySays before after = (any : Out) → any ≢ Say → IsPassedOver before after any

-- an output has its name in the words; and it is empty
abbrev pub IsNamed : Order → (Out → Option (List ℕ)) → Out → Type 0
IsNamed order named out = Holds (named out) (output_name order.pairs out)

abbrev pub IsFresh : Order → Shown → Out → Type 0
IsFresh order after out = IsCreated after out (output_name order.pairs out)

module _ (command : Command) (order : Order) (before : Shown) where
  -- the inputs are accepted, as far as they are told, and there is something that the command makes of them
  pub record IsMade : Type 0 where
    pub accepted : AllOf (ShowsAccepted (told_in before order.pairs)) command.form.inputs
    pub makes : CanMake command order (told_in before order.pairs)

  module _ (after : Shown) where
    -- the command was done, and this is its line: its inputs are accepted, and its outputs stand whole under their names,
    -- with nothing left to be written
    pub record IsDone (line : List ℕ) : Type 0 where
      pub accepted : AllOf (ShowsAccepted (told_in before order.pairs)) command.form.inputs
      pub whole : HoldsWhole command order (told_in before order.pairs) after.written line
      pub named : AllOf (IsNamed order after.named) command.form.outputs
      pub flushed : AllOf (λ out. after.unwritten out ≡ 0) command.form.outputs

    -- an output was begun: it has its name, and holds first bytes of what it is to hold
    pub record IsBegun (out : Out) : Type 0 where
      pub first : HoldsFirst command order (told_in before order.pairs) after.written out
      pub named : IsNamed order after.named out

    -- it is as it was, or was begun
    abbrev pub IsLeft : Out → Type 0
    IsLeft out = IsUntouched before after out ⊎ IsBegun out

    -- an output was not created or not written, of what the command had to make: a fault of it was counted, those created
    -- before it were begun, and each is as it was or was begun
    pub record IsWriteFault (failed : Out) : Type 0 where
      pub made : IsMade
      pub risen : HasRisen (before.write_faults failed) (after.write_faults failed)
      pub earlier : FirstThat IsBegun (λ out. out ≡ failed) command.form.outputs
      pub left : AllOf IsLeft command.form.outputs

    -- the command was done, and its line said, whole or in part
    pub record IsAnswered (status : Status) : Type 0 where
      pub line : List ℕ
      pub done : IsDone line
      pub says : Says before after line (due_of command line) status

    -- it was not done, and why: an input was not taken, an output was not written, or there was no memory. But for a write
    -- fault no output was tried.
    abbrev pub EndsShort : Status → Type 0
    EndsShort (LoadFault input) = EndsInputs order.pairs before after command.form.inputs (LoadFault input) × OnlySays before after
    EndsShort (Refused cause) = EndsInputs order.pairs before after command.form.inputs (Refused cause) × OnlySays before after
    EndsShort (WriteFault out) = IsWriteFault out
    EndsShort NoMemory = OnlySays before after
    EndsShort _ = ⊥

-- a command changes no output but those that it creates, nor what is held, and no count falls; one without inputs loads none
pub record OnlyCommanded (command : Command) (before after : Shown) : Type 0 where
  pub kept : IsKept before after
  pub loads : command.form.inputs ≡ [] → after.load_faults ≡ before.load_faults
  pub others : (other : Out) → AllOf (λ out. out ≢ other) command.form.outputs → IsPassedOver before after other

-- a call has ended that asked for a command: it was answered or ended short; none of the command's outputs is that of the
-- lines; what it does not create was passed over; what is held stays, and the lines go out under the name that they had
pub record EndsCall (command : Command) (order : Order) (before after : Shown) (status : Status) : Type 0 where
  pub ends : IsAnswered command order before after status ⊎ EndsShort command order before after status
  pub not_lines : AllOf (λ one. one ≢ Say) command.form.outputs
  pub others : (out : Out) → AllOf (λ one. one ≢ out) command.form.outputs → (out ≡ Say) ⊎ IsPassedOver before after out
  pub loads : command.form.inputs ≡ [] → after.load_faults ≡ before.load_faults
  pub kept : IsKept before after
  pub unnamed : after.named Say ≡ before.named Say
  pub said : IfSome (refusal_of status) (IsSaid before after)

-- a call of words in no form has ended: nothing was done but its line said
pub record EndsUsage (before after : Shown) (status : Status) : Type 0 where
  pub answer : status ≡ Usage
  pub only : OnlyPuts before after Say
  pub said : IfSome (refusal_of status) (IsSaid before after)

-- the one where the words ask for a command, the other where they are in no form
abbrev pub EndsWish : Wish → Shown → Shown → Status → Type 0
EndsWish (Asks command order) before after status = EndsCall command order before after status
EndsWish Nothing before after status = EndsUsage before after status
