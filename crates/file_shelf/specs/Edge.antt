-- What a shelf over real files keeps: its counts of faults, and of each output what it can tell.
use Rattle.std.specs.Prelude.{◌≡◌, ℕ, ◌≤◌, Bool, true, false, not, length, List, take, Option, None, Some}
use Rattle.std.specs.Io.KnownBytes.{Appends, Keeps}
use Rattle.shelf.specs.Counts.{counted, none_counted}
use Rattle.shelf.specs.declared.counts.Counts.{Counts}
use Rattle.file_shelf.specs.declared.buffered.Buffered.{Buffered}
use Rattle.shelf.specs.declared.shelves.Out.{Out}
use Rattle.shelf.specs.declared.shelves.Out.TheVariants.{Video, Sound, Image, Sums, State, Spc, Say}
use Rattle.file_shelf.specs.Given.{given_to}

-- An output: whether it takes bytes, which it does from its creation to a fault; what was given to it since, behind
-- what its file had then, as far as files tell what they have; and how many of those bytes, the last ones, are not yet
-- written.
pub record Kept : Type 0 where
  pub is_open : Bool
  pub given : Option (List ℕ)
  pub unwritten : ℕ

-- an output that was not created
abbrev pub not_created : Kept
not_created = record { is_open = false; given = None; unwritten = 0 }

-- what is kept of an output with this file
abbrev pub kept_of : {F : Type 0} → (F → Option (List ℕ)) → Option (Buffered F) → Kept
kept_of contents None = not_created
kept_of contents (Some file) = record { is_open = not file.failed; given = given_to contents file; unwritten = length file.gathered }

-- the faults of all loads, those of the writes of each output, and the outputs that have files
pub record Edge : Type 0 where
  pub loads : ℕ
  pub writes : Counts
  pub video : Kept
  pub sound : Kept
  pub image : Kept
  pub sums : Kept
  pub state : Kept
  pub spc : Kept

-- no fault yet, and no output
abbrev pub new_edge : Edge
new_edge = record { loads = 0; writes = none_counted; video = not_created; sound = not_created; image = not_created; sums = not_created; state = not_created; spc = not_created }

-- one of the outputs: standard output is always there, tells nothing and gathers nothing
abbrev pub kept_in : Edge → Out → Kept
kept_in e Video = e.video
kept_in e Sound = e.sound
kept_in e Image = e.image
kept_in e Sums = e.sums
kept_in e State = e.state
kept_in e Spc = e.spc
kept_in e Say = record { is_open = true; given = None; unwritten = 0 }

-- the edge after one more fault of an output
abbrev pub faulted : Edge → Out → Edge
faulted e out = record e { writes = counted e.writes out }

-- an output that was just created, and holds nothing back
pub record IsNew (after : Kept) : Type 0 where
  pub opened : after.is_open ≡ true
  pub unwritten : after.unwritten ≡ 0

-- an open output took all of some bytes
pub record Took (before after : Kept) (bytes : List ℕ) : Type 0 where
  pub was_open : before.is_open ≡ true
  pub is_open : after.is_open ≡ true
  pub given : Appends before.given after.given bytes

-- an output took the first of some bytes, all, some or none of them, and takes no more
pub record TookSome (before after : Kept) (bytes : List ℕ) : Type 0 where
  pub closed : after.is_open ≡ false
  pub given : (count : ℕ) × Appends before.given after.given (take count bytes)
  pub unwritten : after.unwritten ≤ before.unwritten

-- all that an open output was given is written
pub record Wrote (before after : Kept) : Type 0 where
  pub was_open : before.is_open ≡ true
  pub is_open : after.is_open ≡ true
  pub given : Keeps before.given after.given
  pub unwritten : after.unwritten ≡ 0

-- an output keeps what it was given, of which not all is written, and takes no more
pub record WroteSome (before after : Kept) : Type 0 where
  pub closed : after.is_open ≡ false
  pub given : Keeps before.given after.given
  pub unwritten : after.unwritten ≤ before.unwritten
