-- Four slices are told as the four files of a job, and why they make none.
use Rattle.std.specs.Prelude.{◌≡◌, ℕ, List, [], ◌∷◌, Option, Some}
use Rattle.shelf.specs.declared.shelves.Input.{Input}
use Rattle.shelf.specs.declared.shelves.Input.TheVariants.{Cart, Boot, Table, Script}
use Rattle.run_io.specs.Lists.{FirstThat}
use Rattle.snes_commands.specs.Kinds.{input_of, AreRefused}
use Rattle.snes_commands.specs.Loads.{TellsAccepted, TellsRefused}
use Rattle.snes_commands.specs.declared.status.Why as program
use Rattle.snes_commands.specs.declared.status.Why.TheVariants as of_program
use Rattle.memory_player.specs.declared.inputs.Why.{Why}
use Rattle.memory_player.specs.declared.inputs.Why.TheVariants as why
use Rattle.memory_player.specs.declared.inputs.End.{End}
use Rattle.memory_player.specs.declared.inputs.End.TheVariants.{Frames, Refused, NoMemory, TooShort}

-- the cause by which the program refuses a file of these bytes
abbrev pub as_program : Why → program.Why
as_program (why.Cart cause) = of_program.Cart cause
as_program why.Boot = of_program.Boot
as_program (why.Table entry) = of_program.Table entry
as_program (why.Script line) = of_program.Script line

-- the bytes of each of the four inputs of a job
abbrev pub told_of : (cart boot table script : List ℕ) → Input → Option (List ℕ)
told_of cart boot table script Cart = Some cart
told_of cart boot table script Boot = Some boot
told_of cart boot table script Table = Some table
told_of cart boot table script _ = Some script

-- why one input was not accepted: its bytes are refused so, or there was no memory
abbrev pub EndsInput : Input → List ℕ → End → Type 0
EndsInput input bytes (Refused cause) = (input_of (as_program cause) ≡ input) × AreRefused bytes (as_program cause)
EndsInput input bytes NoMemory = Unit {0}
EndsInput input bytes _ = ⊥

-- the inputs in the order in which they are read
abbrev pub in_order : List Input
in_order = Cart ∷ (Boot ∷ (Table ∷ (Script ∷ [])))

-- why the inputs make no job: the first that is not accepted is refused so, or there was no memory
abbrev pub EndsInputs : (Input → Option (List ℕ)) → End → Type 0
EndsInputs told (Refused cause) = FirstThat (TellsAccepted told) (TellsRefused told (as_program cause)) in_order
EndsInputs told NoMemory = Unit {0}
EndsInputs told _ = ⊥
