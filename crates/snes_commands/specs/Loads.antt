-- How inputs are loaded and accepted, in their order.
use Rattle.std.specs.Prelude.{◌≡◌, ℕ, nat_eq, if◌then◌else◌, List, [], length, Option, Some, None, IfSome, IsSomeAnd}
use Rattle.shelf.specs.declared.shelves.Input.{Input}
use Rattle.shelf.specs.declared.shelves.Input.TheVariants.{Boot, Table, Script}
use Rattle.shelf.specs.Told.{HasRisen}
use Rattle.shelf.specs.Shown.{Shown}
use Rattle.free_files.specs.Boot.{free_boot}
use Rattle.free_files.specs.Interpolation.{interpolation, table_bytes}
use Rattle.run_io.specs.Words.{input_name}
use Rattle.run_io.specs.Lists.{FirstThat}
use Rattle.snes_commands.specs.declared.status.Why.{Why}
use Rattle.snes_commands.specs.declared.status.Status.{Status}
use Rattle.snes_commands.specs.declared.status.Status.TheVariants.{LoadFault, Refused, NoMemory}
use Rattle.snes_commands.specs.Kinds.{input_of, AreRefused, AreAccepted}

-- the bytes of an input that may be left out: the free boot ROM, the free table, an empty script
abbrev pub free_bytes : Input → Option (List ℕ)
free_bytes Boot = Some free_boot
free_bytes Table = Some (table_bytes interpolation)
free_bytes Script = Some []
free_bytes _ = None

-- those of one that the words leave out, which give it no name
abbrev pub free_in : List (List ℕ) → Input → Option (List ℕ)
free_in pairs input = if nat_eq (length (input_name pairs input)) 0 then free_bytes input else None

-- free bytes, or those that are held
abbrev pub free_or : Option (List ℕ) → Option (List ℕ) → Option (List ℕ)
free_or None held = held
free_or (Some free) held = Some free

-- the bytes of each input: those that are held under the name that the words give it, if the shelf tells them, and the free
-- ones of an input that the words leave out
abbrev pub told_in : Shown → List (List ℕ) → Input → Option (List ℕ)
told_in shown pairs input = free_or (free_in pairs input) (shown.held (input_name pairs input))

-- what is held of an input is accepted, as far as it is told; or is refused so
abbrev pub ShowsAccepted : (Input → Option (List ℕ)) → Input → Type 0
ShowsAccepted told input = IfSome (told input) (AreAccepted input)

abbrev pub ShowsRefused : (Input → Option (List ℕ)) → Why → Input → Type 0
ShowsRefused told cause input = (input_of cause ≡ input) × IfSome (told input) (λ bytes. AreRefused bytes cause)

-- it is told and accepted; or told and refused so
abbrev pub TellsAccepted : (Input → Option (List ℕ)) → Input → Type 0
TellsAccepted told input = IsSomeAnd (told input) (AreAccepted input)

abbrev pub TellsRefused : (Input → Option (List ℕ)) → Why → Input → Type 0
TellsRefused told cause input = (input_of cause ≡ input) × IsSomeAnd (told input) (λ bytes. AreRefused bytes cause)

module _ (pairs : List (List ℕ)) (before after : Shown) where
  -- a fault of loading an input was counted, under its name
  abbrev pub HasFailed : Input → Type 0
  HasFailed input = HasRisen (before.load_faults (input_name pairs input)) (after.load_faults (input_name pairs input))

  -- why one input was not taken: its load failed, or what is held is refused, or there was no memory
  abbrev pub EndsInput : Status → Input → Type 0
  EndsInput (LoadFault failed) input = (failed ≡ input) × HasFailed input
  EndsInput (Refused cause) input = ShowsRefused (told_in before pairs) cause input
  EndsInput NoMemory input = Unit {0}
  EndsInput _ input = ⊥

  -- why the inputs were not taken: that of the first that wasn't, and those before it were accepted
  abbrev pub EndsInputs : List Input → Status → Type 0
  EndsInputs inputs status = FirstThat (ShowsAccepted (told_in before pairs)) (EndsInput status) inputs
