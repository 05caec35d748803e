use Rattle.std.proofs.Common.{arith}
use Rattle.port_log.proofs.Listing.{tell-console, tell-sound}
use Rattle.port_log.proofs.ports.Ports.tell.Goals as goal

pub fetch_add-count-requires : goal.fetch_add-count-requires
fetch_add-count-requires g c =
    let half = rw c.in-Console.is at c.requires.half in
    let rises = rw c.in-Console.is at c.requires.rises in
    let later = rw c.in-Console.is at c.requires.later in
    let orderly = rw c.in-Console.is at c.requires.orderly in (
      rw (← c.self.view_is) at c.requires.seat,
      omega (arith, c.self.invariant.2),
      tell-console _ _ _ _ _ _ _ _ c.requires.entries c.requires.clock c.requires.no_slot c.requires.book half c.how_many-many.ensures rises later orderly,
    )

pub fetch_add-count-requires-in-Sound : goal.fetch_add-count-requires-in-Sound
fetch_add-count-requires-in-Sound g c =
    let half = rw c.in-Sound.is at c.requires.half in
    let rises = rw c.in-Sound.is at c.requires.rises in
    let later = rw c.in-Sound.is at c.requires.later in
    let orderly = rw c.in-Sound.is at c.requires.orderly in (
      rw (← c.self.view_is) at c.requires.seat,
      omega (arith, c.self.invariant.2),
      tell-sound _ _ _ _ _ _ _ _ c.requires.entries c.requires.clock c.requires.no_slot c.requires.book half c.how_many-many.ensures rises later orderly,
    )
