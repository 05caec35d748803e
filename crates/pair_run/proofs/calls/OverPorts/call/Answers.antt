use Rattle.std.proofs.Common.{◌+◌, refl, sym, subst}
use Rattle.clock_ratio.specs.Stamp.{window_of}
use Rattle.port_wire.specs.Answers.{HasWritten}
use Rattle.side_law.specs.Gone.{IsAnswered}
use Rattle.pair_run.specs.Over.{pass_calls}
use Rattle.pair_run.proofs.Ways.{way_answered, way_refused}
use Rattle.pair_run.proofs.calls.OverPorts.call.Goals as goal

pub returns-in-Quiet-clause-answered : goal.returns-in-Quiet-clause-answered
returns-in-Quiet-clause-answered g c = λ p stand.
    record { to = p; now_stands = stand; led = subst (λ a. IsAnswered pass_calls c.args.at a 0 p p) (sym c.in-Quiet.is) (refl, refl) }

pub returns-in-Ok-clause-answered : goal.returns-in-Ok-clause-answered
returns-in-Ok-clause-answered g c = λ p stand.
    way_answered _ _ p c.args.at _ _ c.in-Read.is stand refl refl refl c.read.ensures.side refl c.read.ensures.hears c.in-Ok.byte (λ h. h) c.in-Ok.ensures.ends

pub returns-in-Ok-write-clause-answered : goal.returns-in-Ok-write-clause-answered
returns-in-Ok-write-clause-answered g c = λ p stand.
    let wire = g.W.Wire in
    way_answered _ _ p c.args.at _ _ c.in-Write.is stand refl refl refl c.write.ensures.side refl c.write.ensures.hears 0 (λ h. (refl, h))
    (subst (λ n. HasWritten (window_of (wire.region_of c.args.self.now.wire.now)) c.args.at c.in-Write.port c.in-Write.byte (c.args.at + n)
    (wire.seen c.args.self.now.pass.now).half (wire.seen c.write.new.pass).half) c.args.self.now.rise c.in-Ok-write.ensures.ends)

pub returns-in-Ok-clear-clause-answered : goal.returns-in-Ok-clear-clause-answered
returns-in-Ok-clear-clause-answered g c = λ p stand.
    way_answered _ _ p c.args.at _ _ c.in-Clear.is stand refl refl refl c.clear.ensures.side refl c.clear.ensures.hears 0 (λ h. (refl, h)) c.in-Ok-clear.ensures.ends

pub returns-in-Err-clause-refused : goal.returns-in-Err-clause-refused
returns-in-Err-clause-refused g c = λ none p stand.
    way_refused _ _ p c.args.at _ _ c.in-Read.is stand refl refl refl c.read.ensures.side refl c.read.ensures.hears (λ h. h) c.in-Err.ensures.ends.0

pub returns-in-Err-write-clause-refused : goal.returns-in-Err-write-clause-refused
returns-in-Err-write-clause-refused g c = λ none p stand.
    way_refused _ _ p c.args.at _ _ c.in-Write.is stand refl refl refl c.write.ensures.side refl c.write.ensures.hears (λ h. h) c.in-Err-write.ensures.ends.0

pub returns-in-Err-clear-clause-refused : goal.returns-in-Err-clear-clause-refused
returns-in-Err-clear-clause-refused g c = λ none p stand.
    way_refused _ _ p c.args.at _ _ c.in-Clear.is stand refl refl refl c.clear.ensures.side refl c.clear.ensures.hears (λ h. h) c.in-Err-clear.ensures.ends.0
