-- A console at its beginning.
use Rattle.std.proofs.Common.{◌≡◌, ℕ, ◌≤◌, List, [], length, refl, ap, sym, ◌∙◌, subst, arith}
use Rattle.std.proofs.lemmas.List.{get_or-replicate, length-replicate}
use Rattle.snes_defs.specs.declared.cart.Job.{Job}
use Rattle.snes_defs.specs.declared.region.Region.{Region}
use Rattle.snes_defs.specs.declared.region.Region.TheVariants.{Ntsc, Pal}
use Rattle.input_files.specs.Table.{IsTableFile}
use Rattle.plan_drive.specs.Paths.{no_paths}
use Rattle.snapshot.specs.Positions.{IsRested, slot_count}
use Rattle.snes_commands.specs.Job.{ShowsJob}
use Rattle.snes_commands.specs.Kinds.{IsCartIn}
use Rattle.memory_player.specs.Inputs.{told_of}
use Rattle.frame_player.specs.declared.console.Frames.{Frames}
use Rattle.frame_player.specs.Told.{told_first, IsJobOf, boot_of, table_of, region_of, region_number, no_way, path_of}
use Rattle.frame_player.specs.Frames.{IsFramesOf}

-- a region's number names it
numbered : (region : Region) → region ≡ region_of (region_number region)
numbered Ntsc = refl
numbered Pal = refl

-- the job of the inputs, in a region
pub job_told : (cart boot table : List ℕ) (region : Region) (most slots frames : ℕ) (read job : Job) → ShowsJob (told_of cart (boot_of boot) (table_of table) []) frames read
    → job.cart ≡ read.cart → job.boot ≡ read.boot → job.table ≡ read.table → job.region ≡ region
    → IsJobOf (told_first cart boot table (region_number region) most slots) job
job_told cart boot table region most slots frames read job shows same_cart same_boot same_table is = record {
  cart = subst (λ c. IsCartIn cart c) (sym same_cart) shows.cart;
  boot = same_boot ∙ shows.boot;
  table = subst (λ t. IsTableFile (table_of table) t) (sym same_table) shows.table;
  region = is ∙ numbered region;
}

-- a console whose machines are at their start
pub begun : (cart boot table : List ℕ) (region most slots : ℕ) (job : Job) (f : Frames) → IsJobOf (told_first cart boot table region most slots) job
    → IsRested job most no_paths f.rewind → slot_count f.rewind ≡ slots → f.most ≡ most → f.slots ≡ slots → f.region ≡ job.region → most ≤ 36000 → slots ≤ 64
    → IsFramesOf (told_first cart boot table region most slots) f
begun cart boot table region most slots job f is rested count most_is slots_is region_is few slots_few =
    let told = told_first cart boot table region most slots in
    let size : length told.held ≡ slots = length-replicate slots no_way in
    record {
      stands = record {
        job = job;
        is = is;
        paths = no_paths;
        rested = rested;
        path_is = refl;
        held_are = λ k lt. ap path_of (sym (get_or-replicate slots k no_way no_way (omega (arith, lt, size))));
        slots = count ∙ sym size;
        slots_few = omega (arith, slots_few, size);
        few = few;
      };
      most_is = most_is;
      slots_is = slots_is ∙ sym size;
      region_is = region_is ∙ is.region;
    }

pub ruleset jobs = (job_told)

pub ruleset begins = (begun)
