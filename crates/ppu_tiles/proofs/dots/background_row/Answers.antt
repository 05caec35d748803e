-- The dots of both halves are those of their layer dots.
use Rattle.std.proofs.Common.{◌%◌, inl, inr, ◌∙◌, arith}
use Rattle.std.proofs.lemmas.Bool.{cases_eq}
use Rattle.ppu_tiles.proofs.DotSteps.{half_of_dots}
use Rattle.ppu_tiles.proofs.dots.background_row.Goals as goal

pub returns : goal.returns
returns c = λ e h. elim (cases_eq (e % 2) 1) [
  | inl odd ↦ half_of_dots c.args.p.now c.args.layer c.args.row 1 c.ranked_row-2.new.ranks c.ranked_row-2.new.numbers c.cgram-cgram.result.now
      c.is_direct-direct.result c.fill-2.new.out c.cgram-cgram.ensures.colours c.is_direct-direct.ensures c.ranked_row-2.ensures.ranks
      c.ranked_row-2.ensures.numbers c.fill-2.ensures.filled e h odd
  | inr even ↦ c.fill-2.ensures.others e even
      ∙ half_of_dots c.args.p.now c.args.layer c.args.row 0 c.ranked_row.new.ranks c.ranked_row.new.numbers c.cgram-cgram.result.now
      c.is_direct-direct.result c.fill.new.out c.cgram-cgram.ensures.colours c.is_direct-direct.ensures c.ranked_row.ensures.ranks
      c.ranked_row.ensures.numbers c.fill.ensures.filled e h (omega arith)
]
