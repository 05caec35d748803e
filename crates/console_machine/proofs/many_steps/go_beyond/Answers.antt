use Rattle.std.proofs.Common.{◌+◌, refl, ap, ◌∙◌, arith}
use Rattle.console_bus.specs.BusState.{BusState}
use Rattle.console_machine.proofs.Rounds.{goes_none, goes_then_known, goes_rounds, round_elsewhere}
use Rattle.console_machine.proofs.many_steps.go_beyond.Goals as goal

pub returns-then-round-gt-LONGEST_ROUND-clause-goes : goal.returns-then-round-gt-LONGEST_ROUND-clause-goes
returns-then-round-gt-LONGEST_ROUND-clause-goes c = λ cpu byte round last. goes_none cpu c.args.bus.now

pub places-init : goal.places-init
places-init c = (let few = c.requires.few in record { few = omega (arith, few); goes = λ cpu byte round last. goes_none cpu c.args.bus.now; last = refl })

pub returns-then-before-gone-gt-LINE_CLOCKS-2-clause-goes : goal.returns-then-before-gone-gt-LINE_CLOCKS-2-clause-goes
returns-then-before-gone-gt-LINE_CLOCKS-2-clause-goes c = λ cpu byte round last.
    let was = c.places.invariant in
    let over = c.go_over-gone in
    goes_then_known cpu cpu cpu c.args.bus.now c.places.bus over.new.bus c.places.gone over.result _ (was.goes cpu byte round last)
    (λ same. over.ensures.goes cpu byte (round_elsewhere cpu c.args.bus.now c.places.bus byte c.args.round same round) (was.last ∙ last)) refl

pub places-preserved : goal.places-preserved
places-preserved c =
    let was = c.places.invariant in
    let over = c.go_over-gone in
    let more = c.go_rounds-gone in
    let left = more.ensures.left in
    let has = c.clocks_left-in-places.ensures.clocks in
    let fits = c.if-before-gone-gt-LINE_CLOCKS-2.false in
    record {
      few = omega (arith, left, has, fits);
      goes = λ cpu byte round last. (
          let first = goes_then_known cpu cpu cpu c.args.bus.now c.places.bus over.new.bus c.places.gone over.result (c.places.gone + over.result) (was.goes cpu byte round last)
          (λ same. over.ensures.goes cpu byte (round_elsewhere cpu c.args.bus.now c.places.bus byte c.args.round same round) (was.last ∙ last)) refl in
          goes_then_known cpu cpu cpu c.args.bus.now over.new.bus more.new.bus (c.places.gone + over.result) more.result _ first
          (λ same. goes_rounds cpu cpu over.new.bus more.new.bus byte c.args.round more.ensures.times.number more.result (round_elsewhere cpu c.args.bus.now over.new.bus byte c.args.round same round)
          (λ s h. h) (over.ensures.last ∙ was.last ∙ last) more.ensures.times.times more.ensures.on more.ensures.nothing) refl);
      last = ap (λ (r : BusState). r.last) more.ensures.on ∙ over.ensures.last ∙ was.last;
    }
