use Rattle.std.proofs.Common.{ℕ, arith, ◌∙◌, List, ◌∷◌, Option, Some, sym, ap}
use Rattle.port_log.specs.Known.{KeptValue}
use Rattle.port_log.specs.KeptBook.{book_on}
use Rattle.port_log.proofs.Leaving.{orderly-by, rest-is}
use Rattle.port_log.proofs.Listing.{notes}
use Rattle.port_log.proofs.Locking.{give}
use Rattle.port_log.proofs.ports.Ports.leave.Goals as goal

pub tell-requires-clause-orderly : goal.tell-requires-clause-orderly
tell-requires-clause-orderly c = orderly-by _ _ c.requires.stands

pub split_seat-requires : goal.split_seat-requires
split_seat-requires c =
    let seat = rw (← c.self.view_is) at c.requires.seats.list in (
      c.tell.ensures.table ∙ seat,
      omega (arith, c.self.invariant.2),
      notes _ _,
    )

pub store-requires : goal.store-requires
store-requires c =
    let lock = rw (← c.self.view_is) at c.requires.seats.lock in
    let list = rw (← c.self.view_is) at c.requires.seats.list in
    let region = rw (← c.self.view_is) at c.requires.region in
    let rest = rest-is _ c.requires.out.slot in
    let kept : KeptValue = record {
      book = book_on c.into_badge-note.result.views;
      list = c.into_badge-note.result.table_id;
      region = c.args.log.value.region;
    } in (
      c.exchange-empty.ensures.0 ∙ lock,
      omega (arith, c.self.invariant.0),
      give _ _ _ _ _ c.args.seats.now.lock.me.0 kept c.self.invariant.1
          (c.exchange-empty.ensures.3 ∙ ap (λ (l : List (ℕ × Option KeptValue)). (c.args.seats.now.lock.me.0, (0, Some kept) ∷ l)) rest)
          (c.into_badge-note.ensures.0 ∙ c.split_seat.ensures.3 ∙ c.tell.ensures.table ∙ list ∙ sym c.self.invariant.3, region ∙ sym c.self.invariant.4)
          c.requires.out.holds,
    )
