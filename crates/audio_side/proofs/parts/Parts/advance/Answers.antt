use Rattle.std.proofs.Common.{rules, ◌≡◌, ◌∙◌, ◌<◌, inl, inr, refl, sym, subst, arith}
use Rattle.std.proofs.lemmas.Grind.{common_steps}
use Rattle.side_law.specs.Moves.{taken}
use Rattle.side_law.specs.declared.ports.Stop.TheVariants.{Refused}
use Rattle.side_law.proofs.Gone.{goes_silently, goes_emitting, way_after, way_on, way_to, stops_after, stops_until, stops_refused}
use Rattle.audio_side.specs.Parts.{value_of}
use Rattle.audio_side.specs.Sound.{StandsAt, sound_act, sound_moves, sound_next}
use Rattle.audio_side.specs.SoundLaws.{stamp_stands}
use Rattle.audio_side.proofs.parts.Parts.advance.Goals as goal

pub returns-then-run-clause-gone : goal.returns-then-run-clause-gone
returns-then-run-clause-gone g c = λ m p h stand.
    let P = g.P.Ports in
    let was = c.steps.invariant.gone m p h stand in
    stops_after sound_moves P.calls c.args.until (StandsAt (value_of c.steps.self)) (StandsAt (value_of c.run.new.self)) (P.stands c.steps.ports) (P.stands c.run.new.ports)
    c.args.self.now.waiting.items c.steps.self.waiting.items c.run.new.self.waiting.items m p was 4 4096 Refused (c.if-run.ensures.refused refl was.to was.ports was.now_stands was.ports_stand)

pub returns-then-at-until-clause-gone : goal.returns-then-at-until-clause-gone
returns-then-at-until-clause-gone g c = λ m p h stand.
    let P = g.P.Ports in
    let waited = c.args.self.now.waiting.items in
    let waits = c.run.new.self.waiting.items in
    let was = c.steps.invariant.gone m p h stand in
    let ran = way_after sound_moves P.calls c.args.until (StandsAt (value_of c.steps.self)) (StandsAt (value_of c.run.new.self)) (P.stands c.steps.ports) (P.stands c.run.new.ports)
    waited c.steps.self.waiting.items waits m p was (c.if-run.ensures.gone refl was.to was.ports was.now_stands was.ports_stand) in
    let stamp = stamp_stands (value_of c.run.new.self) ran.to ran.now_stands in
    stops_until sound_moves P.calls c.args.until (StandsAt (value_of c.run.new.self)) (P.stands c.run.new.ports) waited waits m p 4 4096 ran
    (inl (omega (arith, stamp, c.stamp-at.ensures, c.if-at-until.true)))

pub returns-then-at-room-clause-gone : goal.returns-then-at-room-clause-gone
returns-then-at-room-clause-gone g c = λ m p h stand.
    let P = g.P.Ports in
    let waited = c.args.self.now.waiting.items in
    let waits = c.run.new.self.waiting.items in
    let was = c.steps.invariant.gone m p h stand in
    let ran = way_after sound_moves P.calls c.args.until (StandsAt (value_of c.steps.self)) (StandsAt (value_of c.run.new.self)) (P.stands c.steps.ports) (P.stands c.run.new.ports)
    waited c.steps.self.waiting.items waits m p was (c.if-run.ensures.gone refl was.to was.ports was.now_stands was.ports_stand) in
    let stamp = stamp_stands (value_of c.run.new.self) ran.to ran.now_stands in
    let room = subst (λ n. P.calls.room ran.ports n ≡ c.room.result) c.len-waited.ensures.len (c.room.ensures ran.ports ran.ports_stand) in
    stops_until sound_moves P.calls c.args.until (StandsAt (value_of c.run.new.self)) (P.stands c.run.new.ports) waited waits m p 4 4096 ran
    (inr (inl (omega (arith, stamp, c.stamp-at.ensures, c.if-at-room.true, room))))

pub returns-then-waited-gt-CAPACITY-clause-gone : goal.returns-then-waited-gt-CAPACITY-clause-gone
returns-then-waited-gt-CAPACITY-clause-gone g c = λ m p h stand.
    let P = g.P.Ports in
    let waited = c.args.self.now.waiting.items in
    let waits = c.run.new.self.waiting.items in
    let was = c.steps.invariant.gone m p h stand in
    let ran = way_after sound_moves P.calls c.args.until (StandsAt (value_of c.steps.self)) (StandsAt (value_of c.run.new.self)) (P.stands c.steps.ports) (P.stands c.run.new.ports)
    waited c.steps.self.waiting.items waits m p was (c.if-run.ensures.gone refl was.to was.ports was.now_stands was.ports_stand) in
    let stamp = stamp_stands (value_of c.run.new.self) ran.to ran.now_stands in
    stops_until sound_moves P.calls c.args.until (StandsAt (value_of c.run.new.self)) (P.stands c.run.new.ports) waited waits m p 4 4096 ran
    (inr (inr (omega (arith, c.if-waited-gt-CAPACITY.true, c.len-waited.ensures.len))))

pub returns-in_default-clause-gone : goal.returns-in_default-clause-gone
returns-in_default-clause-gone g c = λ m p h stand.
    let P = g.P.Ports in
    let waited = c.args.self.now.waiting.items in
    let waits = c.run.new.self.waiting.items in
    let stood = StandsAt (value_of c.run.new.self) in
    let was = c.steps.invariant.gone m p h stand in
    let ran = way_after sound_moves P.calls c.args.until (StandsAt (value_of c.steps.self)) stood (P.stands c.steps.ports) (P.stands c.run.new.ports)
    waited c.steps.self.waiting.items waits m p was (c.if-run.ensures.gone refl was.to was.ports was.now_stands was.ports_stand) in
    let is = stamp_stands (value_of c.run.new.self) ran.to ran.now_stands ∙ sym c.stamp-at.ensures in
    let acts = c.act.ensures.value ran.to ran.now_stands in
    let early : c.stamp-at.result < c.args.until = omega (arith, c.if-at-until.false) in
    stops_refused sound_moves P.calls c.args.until stood (P.stands c.run.new.ports) waited waits m p 4 4096
    c.stamp-at.result c.act.result (P.stands c.call.new.self) ran is acts early (c.in_default.ensures.refused refl ran.ports ran.ports_stand)

pub steps-preserved : goal.steps-preserved
steps-preserved g c = record {
  gone = λ m p h stand.
      let P = g.P.Ports in
      let waited = c.args.self.now.waiting.items in
      let waits = c.run.new.self.waiting.items in
      let stood = StandsAt (value_of c.run.new.self) in
      let was = c.steps.invariant.gone m p h stand in
      let ran = way_after sound_moves P.calls c.args.until (StandsAt (value_of c.steps.self)) stood (P.stands c.steps.ports) (P.stands c.run.new.ports)
      waited c.steps.self.waiting.items waits m p was (c.if-run.ensures.gone refl was.to was.ports was.now_stands was.ports_stand) in
      let is = stamp_stands (value_of c.run.new.self) ran.to ran.now_stands ∙ sym c.stamp-at.ensures in
      let acts = c.act.ensures.value ran.to ran.now_stands in
      let early : c.stamp-at.result < c.args.until = omega (arith, c.if-at-until.false) in
      let called = c.in-Some.ensures.answered ran.ports ran.ports_stand in
      let from = way_to sound_moves P.calls c.args.until stood (P.stands c.run.new.ports) waited waits m p ran in
      let goes = goes_silently sound_moves P.calls c.args.until c.stamp-at.result c.act.result from c.in-Some.got called.to c.step.new.self.waiting.items is acts early
      (search rules) called.led (c.step.ensures.emits ran.to ran.now_stands)
      (omega (arith, c.if-waits-waited.false, c.len-waits.ensures.len, c.len-waited.ensures.len)) in
      way_on sound_moves P.calls c.args.until stood (P.stands c.run.new.ports) waited waits m p (StandsAt (value_of c.step.new.self)) (P.stands c.call.new.self)
      c.step.new.self.waiting.items ran (sound_next ran.to (taken (sound_act ran.to) c.in-Some.got)) called.to goes (c.step.ensures.next ran.to ran.now_stands) called.now_stands;
  forward = grind (arith, common_steps);
  in_order = grind (arith, common_steps);
  times = search rules;
  region = search rules;
  capacity = search rules;
  fits = grind (arith, common_steps);
  runs = search rules;
}

pub steps-preserved-then-waits-waited : goal.steps-preserved-then-waits-waited
steps-preserved-then-waits-waited g c = record {
  gone = λ m p h stand.
      let P = g.P.Ports in
      let waited = c.args.self.now.waiting.items in
      let waits = c.run.new.self.waiting.items in
      let stood = StandsAt (value_of c.run.new.self) in
      let was = c.steps.invariant.gone m p h stand in
      let ran = way_after sound_moves P.calls c.args.until (StandsAt (value_of c.steps.self)) stood (P.stands c.steps.ports) (P.stands c.run.new.ports)
      waited c.steps.self.waiting.items waits m p was (c.if-run.ensures.gone refl was.to was.ports was.now_stands was.ports_stand) in
      let is = stamp_stands (value_of c.run.new.self) ran.to ran.now_stands ∙ sym c.stamp-at.ensures in
      let acts = c.act.ensures.value ran.to ran.now_stands in
      let early : c.stamp-at.result < c.args.until = omega (arith, c.if-at-until.false) in
      let called = c.in-Some.ensures.answered ran.ports ran.ports_stand in
      let from = way_to sound_moves P.calls c.args.until stood (P.stands c.run.new.ports) waited waits m p ran in
      let told = c.emitted.ensures.told called.to called.now_stands in
      let room = subst (λ n. P.calls.room ran.ports n ≡ c.room.result) c.len-waited.ensures.len (c.room.ensures ran.ports ran.ports_stand) in
      let goes = goes_emitting sound_moves P.calls c.args.until c.stamp-at.result c.act.result from c.in-Some.got called.to c.step.new.self.waiting.items is acts early
      (search rules) called.led (c.step.ensures.emits ran.to ran.now_stands) told.to c.len-waits.result (sym c.len-waits.ensures.len)
      (omega (arith, c.if-waits-waited.true, c.len-waited.ensures.len)) (omega (arith, c.if-at-room.false, room)) told.led in
      way_on sound_moves P.calls c.args.until stood (P.stands c.run.new.ports) waited waits m p (StandsAt (value_of c.step.new.self)) (P.stands c.emitted.new.self)
      c.step.new.self.waiting.items ran (sound_next ran.to (taken (sound_act ran.to) c.in-Some.got)) told.to goes (c.step.ensures.next ran.to ran.now_stands) told.now_stands;
  forward = grind (arith, common_steps);
  in_order = grind (arith, common_steps);
  times = search rules;
  region = search rules;
  capacity = search rules;
  fits = grind (arith, common_steps);
  runs = search rules;
}

pub returns-clause-gone : goal.returns-clause-gone
returns-clause-gone g c = λ m p h stand.
    let P = g.P.Ports in
    let was = c.steps.invariant.gone m p h stand in
    stops_until sound_moves P.calls c.args.until (StandsAt (value_of c.steps.self)) (P.stands c.steps.ports) c.args.self.now.waiting.items c.steps.self.waiting.items m p 4 4096 was
    (inl (omega (arith, stamp_stands (value_of c.steps.self) was.to was.now_stands, c.stamp.ensures, c.steps-test.false)))
