-- What is said of an answer.
use Rattle.std.specs.Prelude.{◌≡◌, List, ℕ, ◌⊎◌}
use Rattle.shelf.specs.declared.shelves.Out.TheVariants as out
use Rattle.shelf.specs.Told.{Appends, AppendsSome, HasRisen}
use Rattle.shelf.specs.Shown.{Shown}
use Rattle.snes_commands.specs.declared.status.Status.{Status}
use Rattle.snes_commands.specs.declared.status.Status.TheVariants.{WriteFault}

-- the first bytes of a line were said, and where no fault of saying was counted the whole of it, of which nothing is
-- held back
pub record IsSaid (before after : Shown) (line : List ℕ) : Type 0 where
  pub some : AppendsSome (before.written out.Say) (after.written out.Say) line
  pub whole : ¬ HasRisen (before.write_faults out.Say) (after.write_faults out.Say) → Appends (before.written out.Say) (after.written out.Say) line
  pub none_left : ¬ HasRisen (before.write_faults out.Say) (after.write_faults out.Say) → after.unwritten out.Say ≡ 0

-- the line of a command that was done was said whole, and nothing of it is held back: the answer is the one that is due
pub record IsSaidWhole (before after : Shown) (line : List ℕ) (due status : Status) : Type 0 where
  pub answer : status ≡ due
  pub whole : Appends (before.written out.Say) (after.written out.Say) line
  pub none_left : after.unwritten out.Say ≡ 0

-- it was said in part, and a fault of saying was counted
pub record IsSaidInPart (before after : Shown) (line : List ℕ) (status : Status) : Type 0 where
  pub answer : status ≡ WriteFault out.Say
  pub some : AppendsSome (before.written out.Say) (after.written out.Say) line
  pub risen : HasRisen (before.write_faults out.Say) (after.write_faults out.Say)

-- the line of a command that was done, and the answer
abbrev pub Says : Shown → Shown → List ℕ → Status → Status → Type 0
Says before after line due status = IsSaidWhole before after line due status ⊎ IsSaidInPart before after line status
