use Rattle.std.proofs.Common.{◌+◌, [], ◌∷◌, refl, ap, sym, ◌∙◌, subst, arith}
use Rattle.port_entries.specs.Entry.{WriteAt}
use Rattle.word_log.specs.Known.{Half, half_in}
use Rattle.word_log.specs.Steps.{after_put, after_count, after_publish}
use Rattle.word_log.specs.Desks.{IsReady}
use Rattle.word_log.proofs.Desks.{half-changed}
use Rattle.word_log.proofs.Calling.{listens-on, wrote-ready}
use Rattle.word_log.proofs.words.Words.write_by.Goals as goal

pub returns-clause-listens : goal.returns-clause-listens
returns-clause-listens c =
    let h = half_in c.args.side c.hear.new.seat.me.0 in
    let e = WriteAt c.args.at c.args.port c.args.v in
    listens-on c.args.side _ _ _ [] (e ∷ []) _ c.args.next (after_publish c.args.next (after_count (after_put e h))) c.hear.ensures.listens
    c.log_write.ensures.wrote refl refl refl refl refl

pub returns-clause-ready : goal.returns-clause-ready
returns-clause-ready c =
    let h = half_in c.args.side c.hear.new.seat.me.0 in
    let e = WriteAt c.args.at c.args.port c.args.v in
    let d = c.hear.new.desk in
    let a = c.advance-other.ensures in
    subst (λ (k : Half). IsReady c.args.side c.args.self.now.region k (record d { log = c.advance-other.new.self; written = d.written + 1 }))
    (sym (ap (half_in c.args.side) c.log_write.ensures.wrote ∙ half-changed c.args.side (after_publish c.args.next (after_count (after_put e h))) c.hear.new.seat.me.0))
    (wrote-ready c.args.side c.args.self.now.region h d c.advance-other.new.self c.args.at c.args.port c.args.v c.args.next c.hear.ensures.ready
    (omega (arith, c.hear.ensures.listens.at, c.requires.own_clock)) c.requires.rises a.region_stays a.publishes a.other_stays a.stands)
