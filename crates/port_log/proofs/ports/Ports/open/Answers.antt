use Rattle.std.proofs.Common.{arith, ◌∙◌, ap, sym}
use Rattle.port_log.specs.Known.{KeptValue}
use Rattle.port_log.specs.KeptBook.{book_on}
use Rattle.port_log.proofs.Locking.{opens}
use Rattle.port_log.proofs.Listing.{begins, notes}
use Rattle.port_log.proofs.ports.Ports.open.Goals as goal

pub of_words-requires : goal.of_words-requires
of_words-requires c = begins

pub split_seat-requires : goal.split_seat-requires
split_seat-requires c =
    let e = c.in-Ok-of_words.ensures in (e.2, omega (arith, e.0), notes _ _)

pub new-requires-3 : goal.new-requires-3
new-requires-3 c =
    let kept : KeptValue = record {
      book = book_on c.into_badge-note.result.views;
      list = c.into_badge-note.result.table_id;
      region = c.in-Ok.log.value.region;
    } in
    rw (c.push_reserved.ensures.items, c.in-Ok-with_capacity.ensures.items)
    (opens _ _ kept (
      c.into_badge-note.ensures.0 ∙ c.split_seat.ensures.3 ∙ sym c.split_seat.ensures.0,
      ap (λ l. l.region) c.in-Ok.ensures.ok ∙ c.in_ok-log.ensures.region,
    ))
