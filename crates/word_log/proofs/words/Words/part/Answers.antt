use Rattle.std.proofs.Common.{◌∙◌, ap, sym, arith}
use Rattle.word_log.proofs.Seats.{halves-cut}
use Rattle.word_log.proofs.words.Words.part.Goals as goal

pub split_seat-sound_seat-requires : goal.split_seat-sound_seat-requires
split_seat-sound_seat-requires c = (
  ap (λ w. w.words.table) c.whole.view_is ∙ ap (λ p. p.table) c.requires ∙ sym (ap (λ p. p.table) c.self.view_is),
  omega (arith, c.self.invariant.0),
  halves-cut _ _ _,
)
