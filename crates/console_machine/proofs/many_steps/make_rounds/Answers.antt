use Rattle.std.proofs.Common.{◌≡◌, ℕ, ◌+◌, refl, arith, sym, ap, subst, ◌∙◌}
use Rattle.cpu65816.specs.Stands.{access_of}
use Rattle.console_bus.specs.BusState.{BusState}
use Rattle.console_steps.proofs.Wires.{wired_then}
use Rattle.console_machine.proofs.Runs.{no_run}
use Rattle.console_machine.specs.Rounds.{GoesOn, IsRound, IsRoundFrom}
use Rattle.console_machine.proofs.Looks.{no_looks, look_on}
use Rattle.console_machine.proofs.Rounds.{is_round, goes_none, goes_look, goes_then, goes_then_known, goes_then_rounds, round_elsewhere}
use Rattle.console_machine.proofs.many_steps.make_rounds.Goals as goal

pub returns-then-not-is_calm-clause-run : goal.returns-then-not-is_calm-clause-run
returns-then-not-is_calm-clause-run c = λ w at line. no_run c.args.cpu.now c.args.bus.now w at line

pub returns-then-not-is_wired-clause-run : goal.returns-then-not-is_wired-clause-run
returns-then-not-is_wired-clause-run c = λ w at line. no_run c.args.cpu.now c.args.bus.now w at line

pub looks-init : goal.looks-init
looks-init c =
    let same = c.last_byte-byte.ensures.stays in
    record {
      sum = rw same (omega arith);
      calm = rw same (c.if-not-is_calm.ensures refl);
      goes = rw same (goes_none c.args.cpu.now c.args.bus.now);
      looks = λ w at. rw same (no_looks c.args.cpu.now c.args.bus.now w 0 at refl);
      wired = λ w at. rw same (c.if-not-is_wired.ensures refl);
    }

pub looks-preserved : goal.looks-preserved
looks-preserved c =
    let was = c.looks.invariant in
    let step = c.in-Some.ensures in
    let same = c.is_back.ensures.stays in
    record {
      sum = rw same (omega (arith, was.sum, step.left, step.within));
      calm = rw same (step.calm was.calm);
      goes = rw same (goes_then c.args.cpu.now c.looks.cpu c.look_once.new.cpu c.args.bus.now c.looks.bus c.look_once.new.bus c.looks.gone c.in-Some.clocks _ was.goes
          (goes_look c.looks.cpu c.look_once.new.cpu c.looks.bus c.look_once.new.bus c.in-Some.clocks step.made step.looks step.calm) refl);
      looks = λ w at. rw same (
          look_on c.looks.cpu c.look_once.new.cpu c.looks.bus c.look_once.new.bus w c.looks.gone c.in-Some.clocks _ (was.looks w at)
          was.calm step.looks (step.made (was.wired w at)) refl);
      wired = λ w at. (
          let h = was.looks w at in
          rw same (wired_then c.looks.cpu c.look_once.new.cpu c.looks.bus c.look_once.new.bus (access_of c.looks.cpu) c.in-Some.clocks h.to.processor (step.made (was.wired w at)) h.at.processor));
    }

pub returns-in-None-clause-run : goal.returns-in-None-clause-run
returns-in-None-clause-run c = λ w at line.
    rw (c.in-None.ensures.cpu_stays refl, c.in-None.ensures.bus_stays refl) (c.looks.invariant.goes w at line (c.if-not-is_calm.ensures refl) (c.if-not-is_wired.ensures refl)).run

pub returns-then-is_back-clause-run : goal.returns-then-is_back-clause-run
returns-then-is_back-clause-run c = λ w at line.
    let was = c.looks.invariant in
    let step = c.in-Some.ensures in
    let same = c.is_back.ensures.stays in
    let more = c.go_rounds-more in
    let beyond = c.go_beyond in
    let first = c.args.cpu.now in
    let cpu = c.look_once.new.cpu in
    let bus = c.args.bus.now in
    let k = c.looks.gone + c.in-Some.clocks in
    let last : c.is_back.new.bus.last ≡ c.last_byte-byte.result = c.is_back.ensures.last c.if-is_back.true in
    let ended : c.look_once.new.bus.last ≡ bus.last = ap (λ (r : BusState). r.last) (sym same) ∙ last ∙ c.last_byte-byte.ensures.last in
    let round : IsRound cpu bus k =
    is_round first cpu bus c.look_once.new.bus k
    (λ u here. look_on c.looks.cpu cpu c.looks.bus c.look_once.new.bus u c.looks.gone c.in-Some.clocks k (was.looks u here)
    was.calm step.looks (step.made (was.wired u here)) refl)
    (c.is_back.ensures.processor c.if-is_back.true) ended in
    let R : ℕ → Type 0 = λ n. IsRoundFrom cpu bus n k in
    let from : IsRoundFrom cpu bus c.last_byte-byte.result k = subst R (sym c.last_byte-byte.ensures.last) round in
    let looked : GoesOn first cpu bus c.is_back.new.bus k =
    rw same (goes_then first c.looks.cpu cpu bus c.looks.bus c.look_once.new.bus c.looks.gone c.in-Some.clocks k was.goes
    (goes_look c.looks.cpu cpu c.looks.bus c.look_once.new.bus c.in-Some.clocks step.made step.looks step.calm) refl) in
    let rounds : GoesOn first cpu bus more.new.bus (k + more.result) =
    goes_then_rounds first cpu cpu bus c.is_back.new.bus more.new.bus c.last_byte-byte.result k more.ensures.times.number k more.result (k + more.result) looked from (λ s h. h)
    last more.ensures.times.times more.ensures.on more.ensures.nothing refl in
    let same_last : more.new.bus.last ≡ c.last_byte-byte.result = ap (λ (r : BusState). r.last) more.ensures.on ∙ last in
    let all = goes_then_known first cpu cpu bus more.new.bus beyond.new.bus (k + more.result) beyond.result _ rounds
    (λ there. beyond.ensures.goes cpu c.last_byte-byte.result (round_elsewhere cpu bus more.new.bus c.last_byte-byte.result k there from) same_last) refl in
    (all w at line (c.if-not-is_calm.ensures refl) (c.if-not-is_wired.ensures refl)).run

pub returns-clause-run : goal.returns-clause-run
returns-clause-run c = λ w at line. (c.looks.invariant.goes w at line (c.if-not-is_calm.ensures refl) (c.if-not-is_wired.ensures refl)).run
