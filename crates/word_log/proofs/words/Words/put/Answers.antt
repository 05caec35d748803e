use Rattle.std.proofs.Common.{◌∙◌, ap, sym, length, arith}
use Rattle.port_entries.specs.Entry.{WriteAt}
use Rattle.port_wire.specs.Seen.{writes_of}
use Rattle.word_log.specs.Layout.{entry_word, entry_number, entry_in}
use Rattle.word_log.specs.Known.{half_in}
use Rattle.word_log.proofs.Seats.{put-step}
use Rattle.word_log.proofs.Wording.{entry-within, read-back}
use Rattle.word_log.proofs.words.Words.put.Goals as goal

pub store-requires : goal.store-requires
store-requires c =
    let many = length (writes_of (half_in c.args.side c.args.seat.now.me.0).mine) in
    let place = c.entry_place.ensures ∙ ap (entry_word c.args.side) c.requires.written in
    let e = WriteAt c.args.at c.args.port c.args.v in
    let back = ap entry_in c.packed-number.ensures ∙ read-back e tt (c.requires.stamp, c.requires.port, c.ranges.v.fits) in (
      rw (← c.self.view_is) at c.requires.seat,
      omega (arith, c.self.invariant.0, place, entry-within c.args.side many),
      put-step _ _ _ c.args.side _ _ c.requires.no_slot c.requires.half c.packed-number.result place
          (ap entry_number back ∙ sym c.packed-number.ensures),
    )
