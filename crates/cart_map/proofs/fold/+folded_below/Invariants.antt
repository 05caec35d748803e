use Rattle.cart_map.proofs.fold.+folded_below.Given as goal

abbrev pub decreases-folded_below : goal.decreases-folded_below
decreases-folded_below l = l.bits
