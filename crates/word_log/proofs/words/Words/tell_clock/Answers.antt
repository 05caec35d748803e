use Rattle.std.proofs.Common.{◌≡◌, ◌≤◌, ◌∙◌, ap, sym, subst, arith}
use Rattle.snes_defs.specs.declared.region.Region.{Region}
use Rattle.clock_ratio.specs.Stamp.{least_of}
use Rattle.port_log.specs.Kept.{other_side}
use Rattle.port_wire.specs.Seen.{writes_of}
use Rattle.word_log.specs.Layout.{clock_word}
use Rattle.word_log.specs.Known.{half_in}
use Rattle.word_log.specs.Rule.{end_of}
use Rattle.word_log.proofs.Seats.{clock-step}
use Rattle.word_log.proofs.Wording.{clock-within}
use Rattle.word_log.proofs.words.Words.tell_clock.Goals as goal

pub load-requires : goal.load-requires
load-requires g c =
    let place = c.clock_place.ensures ∙ ap clock_word c.across.ensures in
    let h = half_in c.args.side c.args.seat.now.me.0 in
    let region : c.args.self.now.region ≡ c.self.inside.table.shared.key =
    sym (ap (λ k. k.region) c.self.view_is) ∙ sym c.self.invariant.1 in (
      rw (← c.self.view_is) at c.requires.seat,
      omega (arith, c.self.invariant.0, place, clock-within (other_side c.args.side)),
      clock-step _ _ _ c.args.side _ _ c.requires.no_slot c.requires.half _ place
          (subst (λ (r : Region). end_of (least_of r) (writes_of h.mine) ≤ h.at) region c.requires.done)
          c.requires.clears,
    )
