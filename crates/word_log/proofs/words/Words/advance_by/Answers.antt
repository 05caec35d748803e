use Rattle.std.proofs.Common.{[], refl, ap, sym, append-nil}
use Rattle.word_log.specs.Known.{half_in}
use Rattle.word_log.specs.Steps.{after_publish}
use Rattle.word_log.proofs.Calling.{listens-on}
use Rattle.word_log.proofs.words.Words.advance_by.Goals as goal

pub returns-clause-listens : goal.returns-clause-listens
returns-clause-listens c =
    let h = half_in c.args.side c.hear.new.seat.me.0 in
    listens-on c.args.side _ _ _ [] [] _ c.args.at (after_publish c.args.at h) c.hear.ensures.listens
    (ap (λ m. m.0) c.publish.ensures.published) (sym (append-nil h.mine)) refl refl refl refl
