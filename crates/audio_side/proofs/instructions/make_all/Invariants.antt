use Rattle.audio_side.specs.Follows.{Follows}
use Rattle.audio_side.proofs.instructions.make_all.Given as goal

abbrev pub invariant-accesses : goal.invariant-accesses
invariant-accesses l = record {
  follows : Follows l.initial.spc l.spc l.initial.hardware l.hardware l.initial.left l.left;
}

abbrev pub decreases-accesses : goal.decreases-accesses
decreases-accesses l = l.left
