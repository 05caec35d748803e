use Rattle.std.proofs.Common.{◌≡◌, ◌+◌, ◌∙◌, ap, sym, subst, arith}
use Rattle.snes_defs.specs.declared.region.Region.{Region}
use Rattle.port_entries.specs.Entry.{WriteAt}
use Rattle.word_log.specs.Known.{half_in}
use Rattle.word_log.specs.Steps.{MayCount}
use Rattle.word_log.proofs.Seats.{count-step}
use Rattle.word_log.proofs.Wording.{count-within}
use Rattle.word_log.proofs.words.Words.count.Goals as goal

pub store-requires : goal.store-requires
store-requires c =
    let region : c.args.self.now.region ≡ c.self.inside.table.shared.key =
    sym (ap (λ k. k.region) c.self.view_is) ∙ sym c.self.invariant.1 in
    let m = subst (λ (r : Region). MayCount r (half_in c.args.side c.args.seat.now.me.0)) region c.requires.may in (
      rw (← c.self.view_is) at c.requires.seat,
      omega (arith, c.self.invariant.0, c.count_place.ensures, count-within c.args.side),
      count-step _ _ _ c.args.side _ _ c.requires.no_slot c.requires.half _ (WriteAt m.at m.port m.byte) c.count_place.ensures
          (ap (λ n. n + 1) c.requires.written) m.coming tt m.fits m.done m.late m.near,
    )
