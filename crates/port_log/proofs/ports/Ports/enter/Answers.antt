use Rattle.std.proofs.Common.{arith, ◌∙◌, ◌∷◌, Some, sym, ap}
use Rattle.atomic_table.specs.Table.{rest}
use Rattle.port_log.proofs.Leaving.{read-is}
use Rattle.port_log.proofs.Locking.{tries}
use Rattle.port_log.proofs.Listing.{joins, look}
use Rattle.port_log.proofs.ports.Ports.enter.Goals as goal

pub compare_exchange-found-requires : goal.compare_exchange-found-requires
compare_exchange-found-requires c =
    let seat = rw (← c.self.view_is) at c.requires.seats.lock in
    let list = rw (← c.self.view_is) at c.requires.seats.names_list in
    let region = rw (← c.self.view_is) at c.requires.seats.names_region in (
      seat,
      omega (arith, c.self.invariant.0),
      tries _ _ _ _ c.args.side _ _ c.requires.idle.no_slot c.number.ensures (list ∙ sym c.self.invariant.3) (region ∙ sym c.self.invariant.4) c.requires.idle.here,
    )

pub exchange-requires : goal.exchange-requires
exchange-requires c =
    let seat = rw (← c.self.view_is) at c.requires.seats.lock in
    let t = c.compare_exchange-found.ensures.2.free c.if-found-ne0.false in
    let e = ap (λ m. m.1) t.1 in
    (c.compare_exchange-found.ensures.0 ∙ seat, (Some t.0, e ∙ ap (λ l. (0, Some t.0) ∷ rest l) (sym e)))

pub join_seat-requires : goal.join_seat-requires
join_seat-requires c =
    let seat = rw (← c.self.view_is) at c.requires.seats.list in
    let names = rw (← c.self.view_is) at c.requires.seats.names_list in
    let t = c.compare_exchange-found.ensures.2.free c.if-found-ne0.false in
    let is = read-is _ _ _ t.0 _ c.exchange.ensures.2 (ap (λ m. m.1) t.1) c.unwrap-kept.ensures in
    let note = ap (λ k. k.list) (c.kept.view_is ∙ is) in (
      seat,
      c.into_seat.ensures.0 ∙ note ∙ t.2.0 ∙ names,
      c.into_seat.ensures.3,
      omega (arith, c.self.invariant.2),
      joins _ _ _ _,
    )

pub load-count-requires : goal.load-count-requires
load-count-requires c =
    let seat = rw (← c.self.view_is) at c.requires.seats.list in (
      c.join_seat.ensures.0 ∙ seat,
      omega (arith, c.self.invariant.2),
      look _ _ _ (ap (λ m. m.1) c.join_seat.ensures.2 ∙ c.requires.idle.no_list_slot),
    )
