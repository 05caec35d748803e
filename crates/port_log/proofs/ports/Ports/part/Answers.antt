use Rattle.std.proofs.Common.{arith, ◌∙◌, ap, sym}
use Rattle.port_log.proofs.Locking.{cuts}
use Rattle.port_log.proofs.Listing.{halves}
use Rattle.port_log.proofs.ports.Ports.part.Goals as goal

pub split_seat-sound_lock-requires : goal.split_seat-sound_lock-requires
split_seat-sound_lock-requires c = (
  ap (λ w. w.ports.lock) c.whole.view_is ∙ ap (λ p. p.lock) c.requires ∙ sym (ap (λ p. p.lock) c.self.view_is),
  omega (arith, c.self.invariant.0),
  cuts _ _ _ _,
)

pub split_seat-sound_list-requires : goal.split_seat-sound_list-requires
split_seat-sound_list-requires c = (
  ap (λ w. w.ports.list) c.whole.view_is ∙ ap (λ p. p.list) c.requires ∙ sym (ap (λ p. p.list) c.self.view_is),
  omega (arith, c.self.invariant.2),
  halves _ _,
)
