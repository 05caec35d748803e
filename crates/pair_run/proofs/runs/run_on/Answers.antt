use Rattle.std.proofs.Common.{rules, subst}
use Rattle.pair_run.specs.Over.{HasTried}
use Rattle.pair_run.proofs.WaySteps.{tried_then, tried_nothing}
use Rattle.pair_run.proofs.runs.run_on.Goals as goal

pub returns-in_err-until-clause-tried : goal.returns-in_err-until-clause-tried
returns-in_err-until-clause-tried g c =
    let wire = g.W.Wire in
    let M = g.M.Machine in
    tried_nothing (wire.region_of c.args.wire.now) (wire.seen c.args.pass.now).side M.moves M.MOST M.CAP c.args.end (M.stands c.args.machine.now) (M.stamp_of c.args.machine.now)
    (wire.seen c.args.pass.now).half (wire.seen c.limit.new.pass).half (M.waiting c.args.machine.now) c.limit.ensures.told c.requires.may.ready

pub returns-then-stamp-at-clause-tried : goal.returns-then-stamp-at-clause-tried
returns-then-stamp-at-clause-tried g c =
    let wire = g.W.Wire in
    let M = g.M.Machine in
    let region = wire.region_of c.args.wire.now in
    let old = (wire.seen c.args.pass.now).half in
    let mid = (wire.seen c.limit.new.pass).half in
    let new = (wire.seen c.run_over.new.over.pass.now).half in
    let to = c.run_over.new.machine in
    let here = c.args.machine.now in
    let h = tried_then region (wire.seen c.args.pass.now).side M.moves M.MOST M.CAP c.args.end (M.stands here) (M.stands to) (M.stamp_of here) (M.stamp_of to) old mid new
    (M.waiting here) (M.waiting to) c.limit.ensures.told c.in_ok-until.until c.in_ok-until.ensures.until.by_end
    (subst (λ s. HasTried region s M.moves M.MOST M.CAP c.in_ok-until.until (M.stands here) (M.stands to) (M.stamp_of here) (M.stamp_of to) mid new (M.waiting here) (M.waiting to))
    c.limit.ensures.side c.run_over.ensures.tried) in
    search rules

pub returns-clause-tried : goal.returns-clause-tried
returns-clause-tried g c =
    let wire = g.W.Wire in
    let M = g.M.Machine in
    let region = wire.region_of c.args.wire.now in
    let old = (wire.seen c.args.pass.now).half in
    let mid = (wire.seen c.limit.new.pass).half in
    let new = (wire.seen c.run_over.new.over.pass.now).half in
    let to = c.run_over.new.machine in
    let here = c.args.machine.now in
    let h = tried_then region (wire.seen c.args.pass.now).side M.moves M.MOST M.CAP c.args.end (M.stands here) (M.stands to) (M.stamp_of here) (M.stamp_of to) old mid new
    (M.waiting here) (M.waiting to) c.limit.ensures.told c.in_ok-until.until c.in_ok-until.ensures.until.by_end
    (subst (λ s. HasTried region s M.moves M.MOST M.CAP c.in_ok-until.until (M.stands here) (M.stands to) (M.stamp_of here) (M.stamp_of to) mid new (M.waiting here) (M.waiting to))
    c.limit.ensures.side c.run_over.ensures.tried) in
    search rules
