-- One more line is put.
use Rattle.std.proofs.Common.{◌+◌, ◌*◌, inl, inr, refl, ◌∙◌, arith}
use Rattle.std.proofs.lemmas.Bool.{cases_lt}
use Rattle.ppu_objects.proofs.Lines.{line_next}
use Rattle.ppu_objects.proofs.painting.put_lines.Goals as goal

pub loop-i-preserved : goal.loop-i-preserved
loop-i-preserved c j k hj hk = elim (cases_lt j c.loop-i.i) [
  | inl earlier ↦ c.put_bytes.ensures.below (8 * j + k) (omega arith) ∙ c.loop-i.invariant j k earlier hk
  | inr here ↦ line_next c.args.p.now c.args.row c.args.slivers.now c.put_bytes.new.lines c.line_of_sliver-line.result c.loop-i.i j k _
      (omega arith) hk c.line_of_sliver-line.ensures refl (c.put_bytes.ensures.put k hk)
]
