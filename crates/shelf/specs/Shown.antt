-- What a shelf shows at one moment, and how much of it a call changes.
use Rattle.std.specs.Prelude.{◌≡◌, ◌≢◌, ℕ, ◌≤◌, List, [], Option}
use Rattle.shelf.specs.declared.shelves.Out.{Out}
use Rattle.shelf.specs.declared.shelves.Out.TheVariants.{Video, Sound}
use Rattle.shelf.specs.Told.{Holds}

-- The bytes held under each name, the bytes that were put to each output and the name under which it was
-- created, as far as the shelf tells them; how many of the bytes of an output, the last ones, are not yet
-- written, so that the output itself has all before them; and the counts of faults, one for each name and one
-- for each output.
pub record Shown : Type 0 where
  pub held : List ℕ → Option (List ℕ)
  pub written : Out → Option (List ℕ)
  pub named : Out → Option (List ℕ)
  pub unwritten : Out → ℕ
  pub load_faults : List ℕ → ℕ
  pub write_faults : Out → ℕ

-- an output is as it was
pub record IsUntouched (before after : Shown) (out : Out) : Type 0 where
  pub written : after.written out ≡ before.written out
  pub named : after.named out ≡ before.named out
  pub unwritten : after.unwritten out ≡ before.unwritten out

-- an output is as it was, and so is its count of faults
pub record IsPassedOver (before after : Shown) (out : Out) : Type 0 where
  pub written : after.written out ≡ before.written out
  pub named : after.named out ≡ before.named out
  pub unwritten : after.unwritten out ≡ before.unwritten out
  pub write_faults : after.write_faults out ≡ before.write_faults out

-- an output has this name and is empty, as far as it is told, and nothing is held back of it
pub record IsCreated (after : Shown) (out : Out) (name : List ℕ) : Type 0 where
  pub named : Holds (after.named out) name
  pub empty : Holds (after.written out) []
  pub unwritten : after.unwritten out ≡ 0

-- a call that loads: no output is changed, nor what is held, and no count of faults falls
pub record OnlyLoads (before after : Shown) : Type 0 where
  pub held : after.held ≡ before.held
  pub written : after.written ≡ before.written
  pub named : after.named ≡ before.named
  pub unwritten : after.unwritten ≡ before.unwritten
  pub write_faults : after.write_faults ≡ before.write_faults
  pub load_faults : (name : List ℕ) → before.load_faults name ≤ after.load_faults name

-- a call that creates one output: it changes no other
pub record OnlyCreates (before after : Shown) (out : Out) : Type 0 where
  pub held : after.held ≡ before.held
  pub load_faults : after.load_faults ≡ before.load_faults
  pub write_faults : (any : Out) → before.write_faults any ≤ after.write_faults any
  pub others : (other : Out) → other ≢ out → IsPassedOver before after other

-- a call that puts to one output: it changes no other, and no name
pub record OnlyPuts (before after : Shown) (out : Out) : Type 0 where
  pub held : after.held ≡ before.held
  pub load_faults : after.load_faults ≡ before.load_faults
  pub named : after.named ≡ before.named
  pub write_faults : (any : Out) → before.write_faults any ≤ after.write_faults any
  pub others : (other : Out) → other ≢ out → IsPassedOver before after other

-- calls that write a run: of the outputs they change video and sound alone
pub record OnlyRuns (before after : Shown) : Type 0 where
  pub held : after.held ≡ before.held
  pub load_faults : after.load_faults ≡ before.load_faults
  pub write_faults : (any : Out) → before.write_faults any ≤ after.write_faults any
  pub others : (other : Out) → other ≢ Video → other ≢ Sound → IsPassedOver before after other

-- any calls: what is held stays, and no count of faults falls
pub record IsKept (before after : Shown) : Type 0 where
  pub held : after.held ≡ before.held
  pub load_faults : (name : List ℕ) → before.load_faults name ≤ after.load_faults name
  pub write_faults : (any : Out) → before.write_faults any ≤ after.write_faults any
