use Rattle.std.proofs.Common.{◌∙◌, ap, sym, arith}
use Rattle.word_log.proofs.Seats.{look-step}
use Rattle.word_log.proofs.words.Words.look.Goals as goal

pub load-word-requires : goal.load-word-requires
load-word-requires c =
    let place = c.requires.place ∙ sym (ap (λ k. k.region) c.self.view_is) ∙ sym c.self.invariant.1 in (
      rw (← c.self.view_is) at c.requires.seat,
      omega (arith, c.self.invariant.0),
      look-step _ _ _ _ c.requires.no_slot place,
    )
