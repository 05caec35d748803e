-- What the calls so far told a console, and the job that follows from it.
use Rattle.std.specs.Prelude.{◌≡◌, ℕ, zero, suc, ◌*◌, ◌/◌, List, [], ◌∷◌, ◌++◌, length, nat_eq, if◌then◌else◌, slice_set, slice_index_or, replicate}
use Rattle.snes_defs.specs.declared.cart.Job.{Job}
use Rattle.snes_defs.specs.declared.region.Region.{Region}
use Rattle.snes_defs.specs.declared.region.Region.TheVariants.{Ntsc, Pal}
use Rattle.snes_defs.specs.declared.script.Span.{Span}
use Rattle.snes_defs.specs.Script.{RiseWithin}
use Rattle.plan_drive.specs.Paths.{Path}
use Rattle.free_files.specs.Boot.{free_boot}
use Rattle.free_files.specs.Interpolation.{interpolation, table_bytes}
use Rattle.input_files.specs.Table.{IsTableFile}
use Rattle.snes_commands.specs.Kinds.{IsCartIn}

-- a path: both pads of each frame, and the frames that begin with a press of the reset button
pub record Way : Type 0 where
  pub pads : List (ℕ × ℕ)
  pub resets : List ℕ

abbrev pub no_way : Way
no_way = record { pads = []; resets = [] }

pub record Told : Type 0 where
  -- the bytes of the cartridge, of the boot ROM and of the table; no bytes of the last two mean the free ones
  pub cart : List ℕ
  pub boot : List ℕ
  pub table : List ℕ
  -- 0 for NTSC, 1 for PAL
  pub region : ℕ
  -- how many frames a path may last
  pub most : ℕ
  -- both pads of each frame of the path
  pub pads : List (ℕ × ℕ)
  -- the frames of the path that begin with a press of the reset button
  pub resets : List ℕ
  -- the path that each slot holds
  pub held : List Way

-- at first the path is empty, and so are those of the slots
abbrev pub told_first : (cart boot table : List ℕ) (region most slots : ℕ) → Told
told_first cart' boot' table' region' most' slots =
    record {
      cart = cart';
      boot = boot';
      table = table';
      region = region';
      most = most';
      pads = [];
      resets = [];
      held = replicate slots no_way;
    }

-- a pad's word: its low four bits count as 0
abbrev pub word_of : ℕ → ℕ
word_of pad = pad / 16 * 16

-- a frame more; the path stored in a slot; the path of a slot
abbrev pub gone_on : Told → ℕ → ℕ → Told
gone_on t pad1 pad2 = record t { pads = t.pads ++ (pad1, pad2) ∷ [] }

abbrev pub way_of : Told → Way
way_of t = record { pads = t.pads; resets = t.resets }

abbrev pub kept_in : Told → ℕ → Told
kept_in t slot = record t { held = slice_set t.held slot (way_of t) }

abbrev pub on_way : Told → Way → Told
on_way t way = record t { pads = way.pads; resets = way.resets }

abbrev pub back_to : Told → ℕ → Told
back_to t slot = on_way t (slice_index_or t.held slot no_way)

-- the button pressed at the end of the path, where it may be: not before the first frame, and once
abbrev pub pressed_in : Told → Told
pressed_in t = record t { resets = t.resets ++ length t.pads ∷ [] }

abbrev pub MayReset : Told → Type 0
MayReset t = RiseWithin 1 36000 (t.resets ++ length t.pads ∷ [])

-- the region of a number, and its number
abbrev pub region_of : ℕ → Region
region_of zero = Ntsc
region_of (suc n) = Pal

abbrev pub region_number : Region → ℕ
region_number Ntsc = 0
region_number Pal = 1

-- the bytes that were given, or the free ones
abbrev pub given_or : List ℕ → List ℕ → List ℕ
given_or free given = if nat_eq (length given) 0 then free else given

abbrev pub boot_of : List ℕ → List ℕ
boot_of = given_or free_boot

abbrev pub table_of : List ℕ → List ℕ
table_of = given_or (table_bytes interpolation)

-- THE JOB has the cartridge, the boot ROM, the table and the region that were told
pub record IsJobOf (told : Told) (job : Job) : Type 0 where
  pub cart : IsCartIn told.cart job.cart
  pub boot : job.boot ≡ boot_of told.boot
  pub table : IsTableFile (table_of told.table) job.table
  pub region : job.region ≡ region_of told.region

-- the spans of a script with these pads: one frame each
abbrev pub spans_of : List (ℕ × ℕ) → List Span
spans_of [] = []
spans_of (pads ∷ rest) = record { count = 1; pad1 = pads.0; pad2 = pads.1 } ∷ spans_of rest

-- the path of a way
abbrev pub path_of : Way → Path
path_of way = record { spans = spans_of way.pads; resets = way.resets }

abbrev pub path_told : Told → Path
path_told t = path_of (way_of t)
