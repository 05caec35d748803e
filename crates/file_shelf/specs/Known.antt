-- Which files a shelf over real files has to do with already, and what else a file to write is.
use Rattle.std.specs.Prelude.{ℕ, Bool, false, ◌||◌, ◌&&◌, nat_eq, List, [], ◌∷◌, Option, None, Some, replicate, if◌then◌else◌}
use Rattle.std.specs.List.{list_any}
use Rattle.shelf.specs.declared.shelves.Out.{Out}
use Rattle.shelf.specs.declared.shelves.Out.TheVariants.{Video, Sound, Image, Sums, State, Spc, Say}
use Rattle.file_shelf.specs.declared.known.Identity.{Identity}
use Rattle.file_shelf.specs.declared.known.Clash.{Clash}
use Rattle.file_shelf.specs.declared.known.Clash.TheVariants.{Loaded, Created, Stream}
use Rattle.file_shelf.specs.declared.known.KnownFiles.{KnownFiles}

-- a file is known, and this one: the same number on the same device
abbrev pub is_same : Option Identity → Identity → Bool
is_same None file = false
is_same (Some known) file = nat_eq known.device file.device && nat_eq known.node file.node

-- this file was loaded
abbrev pub is_loaded : KnownFiles → Identity → Bool
is_loaded known file = list_any (λ one. is_same one file) known.loaded

-- another output is written to this file
abbrev pub is_created_otherwise : KnownFiles → Out → Identity → Bool
is_created_otherwise known Video file = list_any (λ one. is_same one file) (known.sound ∷ (known.image ∷ (known.sums ∷ (known.state ∷ (known.spc ∷ [])))))
is_created_otherwise known Sound file = list_any (λ one. is_same one file) (known.video ∷ (known.image ∷ (known.sums ∷ (known.state ∷ (known.spc ∷ [])))))
is_created_otherwise known Image file = list_any (λ one. is_same one file) (known.video ∷ (known.sound ∷ (known.sums ∷ (known.state ∷ (known.spc ∷ [])))))
is_created_otherwise known Sums file = list_any (λ one. is_same one file) (known.video ∷ (known.sound ∷ (known.image ∷ (known.state ∷ (known.spc ∷ [])))))
is_created_otherwise known State file = list_any (λ one. is_same one file) (known.video ∷ (known.sound ∷ (known.image ∷ (known.sums ∷ (known.spc ∷ [])))))
is_created_otherwise known Spc file = list_any (λ one. is_same one file) (known.video ∷ (known.sound ∷ (known.image ∷ (known.sums ∷ (known.state ∷ [])))))
is_created_otherwise known Say file = false

-- what else the file is that an output is to be written to: one that was loaded, another output, or what a stream goes to
abbrev pub clash_of : KnownFiles → Out → Identity → Option Clash
clash_of known out file =
    if is_loaded known file then Some Loaded else (
    if is_created_otherwise known out file then Some Created else (
    if is_same known.said file || is_same known.warned file then Some Stream else None))

-- nothing loaded or created yet
abbrev pub none_known : Option Identity → Option Identity → KnownFiles
none_known said warned = record {
  loaded = replicate 8 None;
  next = 0;
  video = None;
  sound = None;
  image = None;
  sums = None;
  state = None;
  spc = None;
  said = said;
  warned = warned;
}
