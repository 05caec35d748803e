use Rattle.std.proofs.Common.{◌∙◌, ap, arith}
use Rattle.port_log.specs.Kept.{other_side}
use Rattle.word_log.specs.Layout.{count_word}
use Rattle.word_log.proofs.Seats.{length-step}
use Rattle.word_log.proofs.Wording.{count-within}
use Rattle.word_log.proofs.words.Words.tell_length.Goals as goal

pub load-requires : goal.load-requires
load-requires c =
    let place = c.count_place.ensures ∙ ap count_word c.across.ensures in (
      rw (← c.self.view_is) at c.requires.seat,
      omega (arith, c.self.invariant.0, place, count-within (other_side c.args.side)),
      length-step _ _ _ c.args.side _ _ c.requires.no_slot c.requires.half place,
    )
