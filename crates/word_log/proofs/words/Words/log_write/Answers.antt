use Rattle.std.proofs.Common.{◌∙◌, refl, ap, sym, subst}
use Rattle.port_entries.specs.Entry.{WriteAt}
use Rattle.word_log.specs.Known.{Half, half_in}
use Rattle.word_log.specs.Steps.{after_put, MayCount}
use Rattle.word_log.proofs.Desks.{half-changed}
use Rattle.word_log.proofs.words.Words.log_write.Goals as goal

pub count-requires-clause-may : goal.count-requires-clause-may
count-requires-clause-may c =
    let h = half_in c.args.side c.args.seat.now.me.0 in
    let e = WriteAt c.args.at c.args.port c.args.v in
    let is = ap (λ m. half_in c.args.side m.0) c.put.ensures.put ∙ half-changed c.args.side (after_put e h) c.args.seat.now.me.0 in
    let may : MayCount c.args.self.now.region (after_put e h) = record {
      at = c.args.at;
      port = c.args.port;
      byte = c.args.v;
      coming = refl;
      fits = (c.requires.stamp, c.requires.port, c.ranges.v.fits);
      done = c.requires.done;
      late = c.requires.own_clock;
      near = c.requires.within;
    } in
    subst (λ (k : Half). MayCount c.args.self.now.region k) (sym is) may
