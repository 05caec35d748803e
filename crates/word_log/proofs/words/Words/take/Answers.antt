use Rattle.std.proofs.Common.{◌+◌, ◌∙◌, ap, sym, subst}
use Rattle.clock_ratio.specs.Stamp.{least_of}
use Rattle.port_entries.specs.Entry.{entry_stamp}
use Rattle.port_log.specs.Kept.{clock_of, other_clock}
use Rattle.word_log.specs.Layout.{entry_in}
use Rattle.word_log.specs.Known.{half_in}
use Rattle.word_log.specs.Desks.{IsDesk}
use Rattle.word_log.proofs.Desks.{half-changed, desk-took}
use Rattle.word_log.proofs.words.Words.take.Goals as goal

pub returns-clause-desk : goal.returns-clause-desk
returns-clause-desk c =
    let t = c.tell_entry-word.ensures.told in
    let ok = c.in-Ok.ensures in
    let across = sym c.across-other.ensures in
    let rise = c.least.ensures ∙ ap (λ k. least_of k.region) c.self.view_is in
    let d = c.args.desk.now in
    subst (λ h. IsDesk c.args.side c.args.self.now.region h (record d { log = c.write.new.self; heard = d.heard + 1 }))
    (sym (ap (half_in c.args.side) t.after ∙ half-changed _ _ _))
    (desk-took c.args.side _ (half_in c.args.side c.args.seat.now.me.0) c.args.desk.now c.write.new.self c.tell_entry-word.result c.requires.desk
    ok.region_stays
    (ap (λ s. clock_of s c.write.new.self) across ∙ ok.publishes ∙ ap (λ k. entry_stamp (entry_in c.tell_entry-word.result) + k) rise)
    (ap (λ s. other_clock s c.write.new.self) across ∙ ok.other_stays ∙ ap (λ s. other_clock s c.args.desk.now.log) (sym across)))
