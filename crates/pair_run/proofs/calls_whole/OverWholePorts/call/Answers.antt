use Rattle.std.proofs.Common.{◌+◌, refl, sym, subst}
use Rattle.clock_ratio.specs.Stamp.{window_of}
use Rattle.port_wire.specs.Seen.{half_of}
use Rattle.port_wire.specs.Whole.{other_of, WritesWhole}
use Rattle.side_law.specs.Gone.{IsAnswered}
use Rattle.pair_run.specs.OverWhole.{whole_calls}
use Rattle.pair_run.proofs.Ways.{whole_answered, whole_refused}
use Rattle.pair_run.proofs.calls_whole.OverWholePorts.call.Goals as goal

pub returns-in-Quiet-clause-answered : goal.returns-in-Quiet-clause-answered
returns-in-Quiet-clause-answered g c = λ p stand.
    record { to = p; now_stands = stand; led = subst (λ a. IsAnswered whole_calls c.args.at a 0 p p) (sym c.in-Quiet.is) (refl, refl) }

pub returns-in-Ok-clause-answered : goal.returns-in-Ok-clause-answered
returns-in-Ok-clause-answered g c = λ p stand.
    whole_answered _ _ p c.args.at _ _ c.in-Read.is stand refl refl refl refl c.read_whole.ensures.own c.read_whole.ensures.hears c.in-Ok.byte (λ h. h) c.in-Ok.ensures.ends

pub returns-in-Ok-write_whole-clause-answered : goal.returns-in-Ok-write_whole-clause-answered
returns-in-Ok-write_whole-clause-answered g c = λ p stand.
    let wire = g.W.Wire in
    let side = c.args.self.now.side in
    let old = wire.both c.args.self.now.whole.now in
    whole_answered _ _ p c.args.at _ _ c.in-Write.is stand refl refl refl refl c.write_whole.ensures.own c.write_whole.ensures.hears 0 (λ h. (refl, h))
    (subst (λ n. WritesWhole (window_of (wire.region_of c.args.self.now.wire.now)) c.args.at c.in-Write.port c.in-Write.byte (c.args.at + n)
    (half_of side old) (half_of (other_of side) old) (half_of side (wire.both c.write_whole.new.whole))) c.args.self.now.rise c.in-Ok-write_whole.ensures.ends)

pub returns-in-Ok-clear_whole-clause-answered : goal.returns-in-Ok-clear_whole-clause-answered
returns-in-Ok-clear_whole-clause-answered g c = λ p stand.
    whole_answered _ _ p c.args.at _ _ c.in-Clear.is stand refl refl refl refl c.clear_whole.ensures.own c.clear_whole.ensures.hears 0 (λ h. (refl, h)) c.in-Ok-clear_whole.ensures.ends

pub returns-in-Err-clause-refused : goal.returns-in-Err-clause-refused
returns-in-Err-clause-refused g c = λ none p stand.
    whole_refused _ _ p c.args.at _ _ c.in-Read.is stand (λ h. h) _ c.in-Err.ensures.ends.1

pub returns-in-Err-write_whole-clause-refused : goal.returns-in-Err-write_whole-clause-refused
returns-in-Err-write_whole-clause-refused g c = λ none p stand.
    whole_refused _ _ p c.args.at _ _ c.in-Write.is stand (λ h. h) _ c.in-Err-write_whole.ensures.ends.1

pub returns-in-Err-clear_whole-clause-refused : goal.returns-in-Err-clear_whole-clause-refused
returns-in-Err-clear_whole-clause-refused g c = λ none p stand.
    whole_refused _ _ p c.args.at _ _ c.in-Clear.is stand (λ h. h) _ c.in-Err-clear_whole.ensures.ends.1
