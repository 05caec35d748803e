-- What is put to the output for the sound file is what `spc` makes.
use Rattle.std.proofs.Common.{◌≡◌, ◌≤◌, ℕ, List, [], ◌∷◌, length, Option, refl, sym, subst, arith}
use Rattle.std.proofs.lemmas.List.{take_all}
use Rattle.snes_defs.specs.declared.cart.Job.{Job}
use Rattle.shelf.specs.declared.shelves.Input.{Input}
use Rattle.shelf.specs.declared.shelves.Out.TheVariants.{Spc}
use Rattle.shelf.specs.Told.{Holds, Appends, AppendsSome}
use Rattle.shelf.specs.Shown.{Shown}
use Rattle.run_drive.specs.Ended.{IsLeft}
use Rattle.run_io.specs.declared.options.Count.TheVariants.{Frames}
use Rattle.run_io.specs.Form.{Order, Fits}
use Rattle.run_io.specs.Settings.{IsTaken}
use Rattle.run_io.specs.Lists.{AllOf}
use Rattle.snes_commands.specs.Command.{CanMake, HoldsWhole, HoldsFirst}
use Rattle.snes_commands.specs.Job.{ShowsJob, run_line}
use Rattle.snes_commands.specs.Tagging.{tag_settings, tagged_by}
use Rattle.snes_commands.specs.SoundFile.{spc_form, spc}

-- the frames are few
pub few : (order : Order) → Fits spc_form order → order.count ≤ 36000
few order h = h.count Frames refl

-- the settings of the tags take what they are set to
pub taken : (order : Order) → Fits spc_form order → AllOf (IsTaken order.pairs) tag_settings
taken order h = h.settings

module _ (sounds : Job → List ℕ → Type 0) (order : Order) (told : Input → Option (List ℕ)) (job : Job) (shows : ShowsJob told order.count job) where
  pub spc_can : IsLeft (sounds job) → CanMake (spc sounds) order told
  spc_can h = record {
    contents = λ o. tagged_by order.pairs h.bytes;
    line = run_line job;
    makes = record { job = job; shows = shows; file = h.bytes; sounded = h.left; tagged = refl; says = refl };
  }

  module _ (file : List ℕ) (left : sounds job file) (bytes : List ℕ) (tagged : bytes ≡ tagged_by order.pairs file) (before after : Shown) (empty : Holds (before.written Spc) []) where
    pub spc_whole : (line : List ℕ) → line ≡ run_line job → Appends (before.written Spc) (after.written Spc) bytes → HoldsWhole (spc sounds) order told after.written line
    spc_whole line says puts = record {
      contents = λ o. bytes;
      makes = record { job = job; shows = shows; file = file; sounded = left; tagged = tagged; says = says };
      holds = (puts [] empty, tt);
    }

    pub spc_first : AppendsSome (before.written Spc) (after.written Spc) bytes → AllOf (HoldsFirst (spc sounds) order told after.written) (Spc ∷ [])
    spc_first puts =
        let some = puts [] empty in (
          record {
            contents = λ o. bytes;
            line = run_line job;
            makes = record { job = job; shows = shows; file = file; sounded = left; tagged = tagged; says = refl };
            count = some.0;
            holds = some.1;
          },
          tt,
        )

    pub spc_all : Appends (before.written Spc) (after.written Spc) bytes → AllOf (HoldsFirst (spc sounds) order told after.written) (Spc ∷ [])
    spc_all puts = (
      record {
        contents = λ o. bytes;
        line = run_line job;
        makes = record { job = job; shows = shows; file = file; sounded = left; tagged = tagged; says = refl };
        count = length bytes;
        holds = subst (Holds (after.written Spc)) (sym (take_all (length bytes) bytes (omega arith))) (puts [] empty);
      },
      tt,
    )
