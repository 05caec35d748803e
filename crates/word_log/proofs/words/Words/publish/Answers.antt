use Rattle.std.proofs.Common.{◌≡◌, ◌+◌, ◌≤◌, ◌∙◌, ap, sym, subst, arith}
use Rattle.snes_defs.specs.declared.region.Region.{Region}
use Rattle.clock_ratio.specs.Stamp.{most_of, window_of}
use Rattle.word_log.specs.Known.{half_in}
use Rattle.word_log.proofs.Seats.{publish-step}
use Rattle.word_log.proofs.Wording.{clock-within}
use Rattle.word_log.proofs.words.Words.publish.Goals as goal

pub store-requires : goal.store-requires
store-requires c =
    let region : c.args.self.now.region ≡ c.self.inside.table.shared.key =
    sym (ap (λ k. k.region) c.self.view_is) ∙ sym c.self.invariant.1 in
    let h = half_in c.args.side c.args.seat.now.me.0 in (
      rw (← c.self.view_is) at c.requires.seat,
      omega (arith, c.self.invariant.0, c.clock_place.ensures, clock-within c.args.side),
      publish-step _ _ _ c.args.side _ _ c.requires.no_slot c.requires.half c.args.clock c.clock_place.ensures c.requires.rises
          (subst (λ (r : Region). c.args.clock ≤ h.upto + window_of r + most_of r) region c.requires.near),
    )
