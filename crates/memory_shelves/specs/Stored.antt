-- What a shelf in memory keeps: files, and the first bytes of each output.
use Rattle.std.specs.Prelude.{ℕ, ◌+◌, Bool, false, ◌||◌, nat_lt, List, [], ◌∷◌, ◌++◌, length, take, Option, Some, None, if◌then◌else◌, find, position}
use Rattle.std.specs.Option.{option_map}
use Rattle.std.specs.Str.{bytes_eq}
use Rattle.shelf.specs.declared.shelves.Out.{Out}
use Rattle.shelf.specs.declared.shelves.Out.TheVariants.{Video, Sound, Image, Sums, State, Spc, Say}

-- a file
pub record NamedBytes : Type 0 where
  pub name : List ℕ
  pub bytes : List ℕ

-- An output: its name, empty before it is first created, the first `room` bytes that were put
-- since, and whether more than those were put.
pub record Written : Type 0 where
  pub name : List ℕ
  pub room : ℕ
  pub bytes : List ℕ
  pub overrun : Bool

-- the files, the last that was given first, and the seven outputs
pub record Stored : Type 0 where
  pub files : List NamedBytes
  pub video : Written
  pub sound : Written
  pub image : Written
  pub sums : Written
  pub state : Written
  pub spc : Written
  pub say : Written

-- the bytes of the first file of that name
abbrev pub held_in : List NamedBytes → List ℕ → Option (List ℕ)
held_in files name = option_map (λ file. file.bytes) (find (λ file. bytes_eq file.name name) files)

-- the place of that file, from 0
abbrev pub place_of : List NamedBytes → List ℕ → Option ℕ
place_of files name = position (λ file. bytes_eq file.name name) files

-- a store with one more file, which takes the place of any other of its name
abbrev pub holding : Stored → List ℕ → List ℕ → Stored
holding s name bytes = record s { files = record { name = name; bytes = bytes } ∷ s.files }

-- an output that nothing was put to
abbrev pub blank : List ℕ → ℕ → Written
blank name room = record { name = name; room = room; bytes = []; overrun = false }

-- an output after more bytes
abbrev pub added : Written → List ℕ → Written
added w more = record w {
  bytes = take w.room (w.bytes ++ more);
  overrun = w.overrun || nat_lt w.room (length w.bytes + length more);
}

-- all bytes that were put to an output, as long as all were kept
abbrev pub told : Written → Option (List ℕ)
told w = if w.overrun then None else Some w.bytes

-- one of the outputs
abbrev pub output_of : Stored → Out → Written
output_of s Video = s.video
output_of s Sound = s.sound
output_of s Image = s.image
output_of s Sums = s.sums
output_of s State = s.state
output_of s Spc = s.spc
output_of s Say = s.say

-- a store with another value for one of the outputs
abbrev pub with_output : Stored → Out → Written → Stored
with_output s Video w = record s { video = w }
with_output s Sound w = record s { sound = w }
with_output s Image w = record s { image = w }
with_output s Sums w = record s { sums = w }
with_output s State w = record s { state = w }
with_output s Spc w = record s { spc = w }
with_output s Say w = record s { say = w }

-- nothing held, and nothing put
abbrev pub nothing_stored : ℕ → Stored
nothing_stored room = record {
  files = [];
  video = blank [] room;
  sound = blank [] room;
  image = blank [] room;
  sums = blank [] room;
  state = blank [] room;
  spc = blank [] room;
  say = blank [] room;
}
