use Rattle.std.proofs.Common.{◌≡◌, ◌++◌, ap, sym, ◌∙◌, take, length, nat_lt, List, Bool}
use Rattle.ppu_objects.specs.declared.slivers.Sliver.{Sliver}
use Rattle.ppu_objects.specs.Objects.{grown}
use Rattle.ppu_objects.specs.Slivers.{first_slivers, is_on_screen, sliver_left}
use Rattle.ppu_objects.proofs.Firsts.{slivers_more}
use Rattle.ppu_objects.proofs.slivers.add_slivers.Goals as goal

pub loop-column-preserved : goal.loop-column-preserved
loop-column-preserved c =
    let sliver : Sliver = record { object = c.args.o.now; column = c.loop-column.column } in
    let seen : c.on_screen.result ≡ is_on_screen (sliver_left c.args.o.now c.loop-column.column) = c.on_screen.ensures ∙ ap is_on_screen c.left_of.ensures.value in
    record {
      items = λ xs e.
          c.note_sliver-more.ensures.items (xs ++ first_slivers c.args.o.now c.loop-column.column) (c.loop-column.invariant.items xs e)
          ∙ ap (λ (does : Bool). take 34 (grown does sliver (xs ++ first_slivers c.args.o.now c.loop-column.column))) seen
          ∙ ap (take 34) (sym (slivers_more c.args.o.now c.loop-column.column xs));
      more = λ xs e o.
          c.note_sliver-more.ensures.more (xs ++ first_slivers c.args.o.now c.loop-column.column) (c.loop-column.invariant.items xs e)
          (c.loop-column.invariant.more xs e o)
          ∙ ap (λ (does : Bool). nat_lt 34 (length (grown does sliver (xs ++ first_slivers c.args.o.now c.loop-column.column)))) seen
          ∙ ap (λ (l : List Sliver). nat_lt 34 (length l)) (sym (slivers_more c.args.o.now c.loop-column.column xs));
    }
