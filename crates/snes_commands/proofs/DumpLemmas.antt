-- What is put to the output for the state is what `dump` makes.
use Rattle.std.proofs.Common.{◌≡◌, ◌≤◌, ℕ, List, [], ◌∷◌, length, Option, refl, sym, subst, arith}
use Rattle.std.proofs.lemmas.List.{take_all}
use Rattle.snes_defs.specs.declared.cart.Job.{Job}
use Rattle.shelf.specs.declared.shelves.Input.{Input}
use Rattle.shelf.specs.declared.shelves.Out.TheVariants.{State}
use Rattle.shelf.specs.Told.{Holds, Appends, AppendsSome}
use Rattle.shelf.specs.Shown.{Shown}
use Rattle.run_drive.specs.Ended.{IsLeft}
use Rattle.run_io.specs.declared.options.Count.TheVariants.{Frames}
use Rattle.run_io.specs.Form.{Order, Fits}
use Rattle.run_io.specs.Lists.{AllOf}
use Rattle.snes_commands.specs.Command.{CanMake, HoldsWhole, HoldsFirst}
use Rattle.snes_commands.specs.Job.{ShowsJob, run_line}
use Rattle.snes_commands.specs.Dump.{dump_form, dump}

-- the frames are few
pub few : (order : Order) → Fits dump_form order → order.count ≤ 36000
few order h = h.count Frames refl

module _ (leaves : Job → List ℕ → Type 0) (order : Order) (told : Input → Option (List ℕ)) (job : Job) (shows : ShowsJob told order.count job) where
  pub dump_can : IsLeft (leaves job) → CanMake (dump leaves) order told
  dump_can h = record { contents = λ o. h.bytes; line = run_line job; makes = record { job = job; shows = shows; left = h.left; says = refl } }

  module _ (bytes : List ℕ) (left : leaves job bytes) (before after : Shown) (empty : Holds (before.written State) []) where
    pub dump_whole : (line : List ℕ) → line ≡ run_line job → Appends (before.written State) (after.written State) bytes → HoldsWhole (dump leaves) order told after.written line
    dump_whole line says puts = record { contents = λ o. bytes; makes = record { job = job; shows = shows; left = left; says = says }; holds = (puts [] empty, tt) }

    pub dump_first : AppendsSome (before.written State) (after.written State) bytes → AllOf (HoldsFirst (dump leaves) order told after.written) (State ∷ [])
    dump_first puts =
        let some = puts [] empty in
        (record { contents = λ o. bytes; line = run_line job; makes = record { job = job; shows = shows; left = left; says = refl }; count = some.0; holds = some.1 }, tt)

    pub dump_all : Appends (before.written State) (after.written State) bytes → AllOf (HoldsFirst (dump leaves) order told after.written) (State ∷ [])
    dump_all puts = (
      record {
        contents = λ o. bytes;
        line = run_line job;
        makes = record { job = job; shows = shows; left = left; says = refl };
        count = length bytes;
        holds = subst (Holds (after.written State)) (sym (take_all (length bytes) bytes (omega arith))) (puts [] empty);
      },
      tt,
    )
