-- What stands at a pixel is always an object's.
use Rattle.std.proofs.Common.{ℕ, Bool, true, false, nat_lt, List, [], ◌∷◌, fold, refl, arith, lit<, if◌then◌else◌}
use Rattle.ppu_regs.specs.declared.dots.LayerDot.{LayerDot}
use Rattle.ppu_regs.specs.Picture.{Picture}
use Rattle.ppu_objects.specs.declared.objects.Object.{Object}
use Rattle.ppu_objects.specs.declared.slivers.Sliver.{Sliver}
use Rattle.ppu_objects.specs.Slivers.{nothing, object_dot, sliver_layer_dot, painted, object_layer_dot, drawn_slivers, offset_in, sliver_left}
use Rattle.ppu_objects.specs.Ranks.{IsOfObjects}

nothing_is : IsOfObjects nothing
nothing_is = record { priority = lit< tt; direct = refl; palette = refl }

object_dot_is : (o : Object) (value : ℕ) → IsOfObjects (object_dot o value)
unfolding object_dot
object_dot_is o value = record { priority = omega arith; direct = refl; palette = refl }

either_is : (b : Bool) (c d : LayerDot) → IsOfObjects c → IsOfObjects d → IsOfObjects (if b then c else d)
either_is true c d hc hd = hc
either_is false c d hc hd = hd

sliver_is : (p : Picture) (row : ℕ) (sliver : Sliver) (x : ℕ) → IsOfObjects (sliver_layer_dot p row sliver x)
unfolding sliver_layer_dot
sliver_is p row sliver x =
    either_is (nat_lt (offset_in (sliver_left sliver.object sliver.column) x) 8) _ nothing
    (object_dot_is sliver.object _) nothing_is

painted_is : (p : Picture) (row x : ℕ) (under : LayerDot) (sliver : Sliver) → IsOfObjects under → IsOfObjects (painted p row x under sliver)
unfolding painted
painted_is p row x under sliver h = either_is (sliver_layer_dot p row sliver x).on _ under (sliver_is p row sliver x) h

all_are : (p : Picture) (row x : ℕ) (under : LayerDot) (slivers : List Sliver) → IsOfObjects under → IsOfObjects (fold (painted p row x) under slivers)
all_are p row x under [] h = h
all_are p row x under (sliver ∷ rest) h = all_are p row x (painted p row x under sliver) rest (painted_is p row x under sliver h)

pub object_layer_dot_is : (p : Picture) (row x : ℕ) → IsOfObjects (object_layer_dot p row x)
unfolding object_layer_dot
object_layer_dot_is p row x = all_are p row x nothing (drawn_slivers p row) nothing_is
