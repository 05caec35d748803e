use Rattle.std.proofs.Common.{◌<◌, ◌∙◌, ap, subst, arith}
use Rattle.port_log.specs.Kept.{other_side}
use Rattle.word_log.specs.Layout.{entry_word}
use Rattle.word_log.specs.Known.{half_in}
use Rattle.word_log.proofs.Seats.{entry-step}
use Rattle.word_log.proofs.Wording.{entry-within}
use Rattle.word_log.proofs.words.Words.tell_entry.Goals as goal

pub load-requires : goal.load-requires
load-requires c =
    let place = c.entry_place.ensures ∙ ap (λ s. entry_word s c.args.number) c.across.ensures in (
      rw (← c.self.view_is) at c.requires.seat,
      omega (arith, c.self.invariant.0, place, entry-within (other_side c.args.side) c.args.number),
      entry-step _ _ _ c.args.side _ _ c.requires.no_slot c.requires.half
          (place ∙ ap (entry_word (other_side c.args.side)) c.requires.number)
          (subst (λ n. n < (half_in c.args.side c.args.seat.now.me.0).may) c.requires.number c.requires.less),
    )
