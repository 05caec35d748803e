use Rattle.std.proofs.Common.{subst}
use Rattle.port_entries.specs.Window.{IsSettled}
use Rattle.word_log.specs.Known.{half_in}
use Rattle.word_log.specs.Desks.{clears_of, heard_entries}
use Rattle.word_log.proofs.Calling.{read-value}
use Rattle.word_log.proofs.words.Words.read_by.Goals as goal

pub returns-clause-answer : goal.returns-clause-answer
returns-clause-answer c =
    let h = half_in c.args.side c.hear.new.seat.me.0 in
    let r = c.hear.ensures.ready in (
      read-value c.args.side h.mine h.heard c.args.port c.args.at c.in-Ok.byte
          (c.in-Ok.ensures.value (heard_entries c.args.side (clears_of h.mine) h.heard) r.reads),
      subst (IsSettled c.args.side c.args.at) r.known c.if-is_behind.ensures.settled,
    )
