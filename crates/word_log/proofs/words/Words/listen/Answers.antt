use Rattle.std.proofs.Common.{◌∙◌, ap}
use Rattle.port_wire.specs.Seen.{writes_of}
use Rattle.word_log.specs.Known.{half_in}
use Rattle.word_log.proofs.Entries.{writes-after-clears}
use Rattle.word_log.proofs.Desks.{is-long, upto-told, has-told, place-two, raised-two, may-two, listens-by, desk-same}
use Rattle.word_log.proofs.words.Words.listen.Goals as goal

pub take_all-requires-clause-half : goal.take_all-requires-clause-half
take_all-requires-clause-half g c = has-told _ _ _ _ _ _ _ c.tell_clock-clock.ensures.told c.tell_length-many.ensures.told

pub take_all-requires-clause-place : goal.take_all-requires-clause-place
take_all-requires-clause-place g c =
    place-two _ _ _ _ _ _ _ c.tell_clock-clock.ensures.told c.tell_length-many.ensures.told ∙ c.requires.place

pub take_all-requires-clause-many : goal.take_all-requires-clause-many
take_all-requires-clause-many g c = may-two _ _ _ _ _ _ _ c.tell_clock-clock.ensures.told c.tell_length-many.ensures.told

pub take_all-requires-clause-raised : goal.take_all-requires-clause-raised
take_all-requires-clause-raised g c = raised-two _ _ _ _ _ _ _ c.tell_clock-clock.ensures.told c.tell_length-many.ensures.told

pub take_all-requires-clause-desk : goal.take_all-requires-clause-desk
take_all-requires-clause-desk g c =
    let h = half_in c.args.side c.args.seat.now.me.0 in
    let s = c.tell_clock-clock.ensures.told in
    let t = c.tell_length-many.ensures.told in
    let is = is-long _ _ _ _ _ _ _ s t in
    desk-same c.args.side _ h _ _ c.requires.ready.desk (ap (λ k. k.at) is) (ap (λ k. k.heard) is)
    (ap (λ k. writes_of k.mine) is ∙ writes-after-clears h.at h.mine _ (c.requires.clears _))
    (upto-told _ _ _ _ _ _ _ s t)

pub returns-clause-listens : goal.returns-clause-listens
returns-clause-listens g c =
    listens-by _ _ _ _ _ _ _ c.tell_clock-clock.ensures.told c.tell_length-many.ensures.told _ c.take_all.ensures.takes c.take_all.ensures.all
