use Rattle.std.proofs.Common.{arith, ◌∙◌, ap, sym}
use Rattle.port_log.proofs.Locking.{merges}
use Rattle.port_log.proofs.Listing.{joins, look}
use Rattle.port_log.proofs.ports.Ports.reunite.Goals as goal

pub join_seat-requires : goal.join_seat-requires
join_seat-requires c = (
  ap (λ w. w.ports.lock) c.console.view_is ∙ ap (λ p. p.lock) c.requires.console_of ∙ sym (ap (λ p. p.lock) c.self.view_is),
  ap (λ w. w.ports.lock) c.sound.view_is ∙ ap (λ p. p.lock) c.requires.sound_of ∙ sym (ap (λ p. p.lock) c.self.view_is),
  c.sound.invariant.idle.no_slot,
  omega (arith, c.self.invariant.0),
  merges _ _ _ _ _ _,
)

pub join_seat-requires-2 : goal.join_seat-requires-2
join_seat-requires-2 c = (
  ap (λ w. w.ports.list) c.console.view_is ∙ ap (λ p. p.list) c.requires.console_of ∙ sym (ap (λ p. p.list) c.self.view_is),
  ap (λ w. w.ports.list) c.sound.view_is ∙ ap (λ p. p.list) c.requires.sound_of ∙ sym (ap (λ p. p.list) c.self.view_is),
  c.sound.invariant.idle.no_list_slot,
  omega (arith, c.self.invariant.2),
  joins _ _ _ _,
)

pub load-count-requires : goal.load-count-requires
load-count-requires c = (
  c.join_seat-2.ensures.0
      ∙ ap (λ w. w.ports.list) c.console.view_is ∙ ap (λ p. p.list) c.requires.console_of ∙ sym (ap (λ p. p.list) c.self.view_is),
  omega (arith, c.self.invariant.2),
  look _ _ _ (ap (λ m. m.1) c.join_seat-2.ensures.2 ∙ c.console.invariant.idle.no_list_slot),
)
