use mathlib.Core.Logic.{∥∥₁_elim}
use Rattle.std.proofs.Common.{◌≡◌, ◌+◌, ◌*◌, ◌≤◌, length, [], refl, inl, inr, ⊎_elim, List, ap, sym, ◌∙◌, subst, arith}
use Rattle.clock_ratio.specs.Stamp.{window_of}
use Rattle.port_entries.specs.Entry.{Entry}
use Rattle.port_wire.specs.Tally.{Tally}
use Rattle.port_wire.specs.Seen.{Half, Seen, parted}
use Rattle.commute_laws.specs.History.{History}
use Rattle.pair_run.specs.Leg.{LegRan, IfHeldBack, IsSpent}
use Rattle.pair_run.specs.Tried.{call_of}
use Rattle.pair_run.specs.Turn.{tries_of_turn}
use Rattle.pair_run.proofs.TurnGoesOn.{has_turned, has_gone, held_still, still_full}
use Rattle.pair_run.specs.declared.ends.LegEnd.TheVariants.{Drain}
use Rattle.pair_run.proofs.turns.turn.Given.{Over}
use Rattle.pair_run.proofs.turns.turn.Goals.{After-step_earlier-stepped}
use Rattle.pair_run.proofs.turns.turn.Goals as goal

pub returns-clause-turned : goal.returns-clause-turned
returns-clause-turned g c = λ c0 s0 c0_valid s0_valid a b on a_stands b_stands a_is b_is.
    let wire = g.W.Wire in
    let console = g.C.Machine in
    let sound = g.S.Machine in
    let region = wire.region_of c.args.wire.now in
    let window = window_of region in
    let end = c.args.end in
    let of_console = g.met.C.Machine g.world.𝓛 g.world.𝓜 g.world.𝓡 ((λ s x. x), (λ x. x), (λ x. x), λ x. x) in
    let of_sound = g.met.S.Machine g.world.𝓛 g.world.𝓜 g.world.𝓡 ((λ s x. x), (λ x. x), (λ x. x), λ x. x) in
    let parts = c.part-console_pass.ensures in
    let legs = c.both_legs-console_end.ensures in
    let ran = c.both_legs-console_end.new in
    let met = c.reunite-whole.ensures in
    let told = c.publish_both.ensures in
    let step = c.step_earlier-stepped.ensures in
    let old = wire.both c.args.whole in
    let new = wire.both c.step_earlier-stepped.new.whole in
    let first = (wire.seen ran.console_pass).half in
    let second = (wire.seen ran.sound_pass).half in
    let console_mid = console.stands ran.console in
    let sound_mid = sound.stands ran.sound in
    let mine : Half → List Entry = λ h. h.mine in
    let tally : Half → Tally = λ h. h.tally in
    let by_console = subst (λ side. LegRan side console.moves window end console_mid first (console.waiting c.args.console.now) (console.waiting ran.console) a)
    (ap (λ (q : Seen). q.side) parts.console)
    (legs.console.ran.from a a_stands (a_is ∙ sym (ap (λ (q : Seen). q.half.mine) parts.console))) in
    let by_sound = subst (λ side. LegRan side sound.moves window end sound_mid second (sound.waiting c.args.sound.now) (sound.waiting ran.sound) b)
    (ap (λ (q : Seen). q.side) parts.sound)
    (legs.sound.ran.from b b_stands (b_is ∙ sym (ap (λ (q : Seen). q.half.mine) parts.sound))) in
    has_turned region (console.valid region) (sound.valid region) console.MOST sound.MOST console.moves sound.moves
    (of_console.lawful region) (of_sound.lawful region) c0 s0 c0_valid s0_valid
    window end console_mid (console.stands c.step_earlier-stepped.new.console) sound_mid (sound.stands c.step_earlier-stepped.new.sound)
    old (record { console = first; sound = second }) new
    (console.waiting c.args.console.now) (console.waiting ran.console) (console.waiting c.step_earlier-stepped.new.console)
    (sound.waiting c.args.sound.now) (sound.waiting ran.sound) (sound.waiting c.step_earlier-stepped.new.sound)
    c.both_legs-console_end.result.0 c.both_legs-console_end.result.1 c.step_earlier-stepped.result a b on by_console by_sound met.heard
    (λ m stands. omega (arith, legs.console.beside.clock, of_console.stands_stamp ran.console m stands))
    (λ m stands. omega (arith, legs.sound.beside.clock, of_sound.stands_stamp ran.sound m stands))
    (λ p q p_stands q_stands p_is q_is. step.stepped p q p_stands q_stands
    (p_is ∙ sym (ap mine met.console) ∙ sym told.console.mine)
    (q_is ∙ sym (ap mine met.sound) ∙ sym told.sound.mine))
    (⊎_elim (λ lt. inl (omega (arith, lt, of_console.stands_stamp c.args.console.now a.now a_stands)))
    (λ lt. inr (omega (arith, lt, of_sound.stands_stamp c.args.sound.now b.now b_stands))) c.requires.before_end)
    (λ m stands. held_still c.both_legs-console_end.result.0 (call_of (console.moves.act m)) (console.stamp_of ran.console) (console.moves.stamp m) tries_of_turn
    (parted old.console) first new.console
    (subst (λ (q : Seen). IfHeldBack c.both_legs-console_end.result.0 (λ late. IsSpent (call_of (console.moves.act m)) (console.stamp_of ran.console) late tries_of_turn q.half first))
    parts.console (legs.console.spent m stands))
    (of_console.stands_stamp ran.console m stands)
    (step.console.tally ∙ told.console.tally ∙ ap tally met.console))
    (λ m stands. held_still c.both_legs-console_end.result.1 (call_of (sound.moves.act m)) (sound.stamp_of ran.sound) (sound.moves.stamp m) tries_of_turn
    (parted old.sound) second new.sound
    (subst (λ (q : Seen). IfHeldBack c.both_legs-console_end.result.1 (λ late. IsSpent (call_of (sound.moves.act m)) (sound.stamp_of ran.sound) late tries_of_turn q.half second))
    parts.sound (legs.sound.spent m stands))
    (of_sound.stands_stamp ran.sound m stands)
    (step.sound.tally ∙ told.sound.tally ∙ ap tally met.sound))

pub returns-clause-gone : goal.returns-clause-gone
returns-clause-gone g c = λ a b a_stands b_stands a_is b_is.
    let wire = g.W.Wire in
    let console = g.C.Machine in
    let sound = g.S.Machine in
    let region = wire.region_of c.args.wire.now in
    let window = window_of region in
    let end = c.args.end in
    let of_console = g.met.C.Machine g.world.𝓛 g.world.𝓜 g.world.𝓡 ((λ s x. x), (λ x. x), (λ x. x), λ x. x) in
    let of_sound = g.met.S.Machine g.world.𝓛 g.world.𝓜 g.world.𝓡 ((λ s x. x), (λ x. x), (λ x. x), λ x. x) in
    let parts = c.part-console_pass.ensures in
    let legs = c.both_legs-console_end.ensures in
    let ran = c.both_legs-console_end.new in
    let met = c.reunite-whole.ensures in
    let told = c.publish_both.ensures in
    let step = c.step_earlier-stepped.ensures in
    let old = wire.both c.args.whole in
    let new = wire.both c.step_earlier-stepped.new.whole in
    let first = (wire.seen ran.console_pass).half in
    let second = (wire.seen ran.sound_pass).half in
    let console_mid = console.stands ran.console in
    let sound_mid = sound.stands ran.sound in
    let mine : Half → List Entry = λ h. h.mine in
    let tally : Half → Tally = λ h. h.tally in
    let by_console = subst (λ side. LegRan side console.moves window end console_mid first (console.waiting c.args.console.now) (console.waiting ran.console) a)
    (ap (λ (q : Seen). q.side) parts.console)
    (legs.console.ran.from a a_stands (a_is ∙ sym (ap (λ (q : Seen). q.half.mine) parts.console))) in
    let by_sound = subst (λ side. LegRan side sound.moves window end sound_mid second (sound.waiting c.args.sound.now) (sound.waiting ran.sound) b)
    (ap (λ (q : Seen). q.side) parts.sound)
    (legs.sound.ran.from b b_stands (b_is ∙ sym (ap (λ (q : Seen). q.half.mine) parts.sound))) in
    has_gone console.moves sound.moves window end console.MOST console.CAP sound.MOST sound.CAP (console.stamp_of ran.console) (sound.stamp_of ran.sound)
    console_mid (console.stands c.step_earlier-stepped.new.console) sound_mid (sound.stands c.step_earlier-stepped.new.sound)
    old (record { console = first; sound = second }) new
    (console.waiting c.args.console.now) (console.waiting ran.console) (console.waiting c.step_earlier-stepped.new.console)
    (sound.waiting c.args.sound.now) (sound.waiting ran.sound) (sound.waiting c.step_earlier-stepped.new.sound)
    c.both_legs-console_end.result.0 c.both_legs-console_end.result.1 c.step_earlier-stepped.result a b by_console by_sound
    (of_console.stands_stamp ran.console) (of_sound.stands_stamp ran.sound)
    (λ p q p_stands q_stands p_is q_is. step.stepped p q p_stands q_stands
    (p_is ∙ sym (ap mine met.console) ∙ sym told.console.mine)
    (q_is ∙ sym (ap mine met.sound) ∙ sym told.sound.mine))
    legs.console.done legs.console.drain
    (λ m stands. held_still c.both_legs-console_end.result.0 (call_of (console.moves.act m)) (console.stamp_of ran.console) (console.moves.stamp m) tries_of_turn
    (parted old.console) first new.console
    (subst (λ (q : Seen). IfHeldBack c.both_legs-console_end.result.0 (λ late. IsSpent (call_of (console.moves.act m)) (console.stamp_of ran.console) late tries_of_turn q.half first))
    parts.console (legs.console.spent m stands))
    (of_console.stands_stamp ran.console m stands)
    (step.console.tally ∙ told.console.tally ∙ ap tally met.console))
    legs.sound.done legs.sound.drain
    (λ m stands. held_still c.both_legs-console_end.result.1 (call_of (sound.moves.act m)) (sound.stamp_of ran.sound) (sound.moves.stamp m) tries_of_turn
    (parted old.sound) second new.sound
    (subst (λ (q : Seen). IfHeldBack c.both_legs-console_end.result.1 (λ late. IsSpent (call_of (sound.moves.act m)) (sound.stamp_of ran.sound) late tries_of_turn q.half second))
    parts.sound (legs.sound.spent m stands))
    (of_sound.stands_stamp ran.sound m stands)
    (step.sound.tally ∙ told.sound.tally ∙ ap tally met.sound))

-- without room for the bytes of two steps there is none after a step either
console_full : (g : Over) (c : After-step_earlier-stepped g) → c.both_legs-console_end.result.0 ≡ Drain
    → length (g.C.Machine.waiting c.step_earlier-stepped.new.console) + 2 * g.C.Machine.MOST ≤ g.C.Machine.CAP → ⊥
console_full g c is room =
    let console = g.C.Machine in
    let ran = c.both_legs-console_end.new in
    let new = c.step_earlier-stepped.new in
    let told = g.W.Wire.both c.publish_both.new.whole in
    ∥∥₁_elim c.stamp.ensures.stands (λ x y. absurd x) (λ p. ∥∥₁_elim c.stamp-2.ensures.stands (λ x y. absurd x) (λ q.
    let before_c : History g.C.Machine.State = record { now = p.0; steps = 0; entries = told.console.mine; emitted = [] } in
    let before_s : History g.S.Machine.State = record { now = q.0; steps = 0; entries = told.sound.mine; emitted = [] } in
    let then = c.step_earlier-stepped.ensures.stepped before_c before_s p.1 q.1 refl refl in
    still_full (console.stands new.console) (g.W.Wire.both new.whole).console (console.waiting ran.console) (console.waiting new.console) before_c then.after_c console.MOST console.CAP
    then.console (c.both_legs-console_end.ensures.console.drain.0 is).1 room))

-- without room for the bytes of two steps there is none after a step either
sound_full : (g : Over) (c : After-step_earlier-stepped g) → c.both_legs-console_end.result.1 ≡ Drain
    → length (g.S.Machine.waiting c.step_earlier-stepped.new.sound) + 2 * g.S.Machine.MOST ≤ g.S.Machine.CAP → ⊥
sound_full g c is room =
    let sound = g.S.Machine in
    let ran = c.both_legs-console_end.new in
    let new = c.step_earlier-stepped.new in
    let told = g.W.Wire.both c.publish_both.new.whole in
    ∥∥₁_elim c.stamp.ensures.stands (λ x y. absurd x) (λ p. ∥∥₁_elim c.stamp-2.ensures.stands (λ x y. absurd x) (λ q.
    let before_c : History g.C.Machine.State = record { now = p.0; steps = 0; entries = told.console.mine; emitted = [] } in
    let before_s : History g.S.Machine.State = record { now = q.0; steps = 0; entries = told.sound.mine; emitted = [] } in
    let then = c.step_earlier-stepped.ensures.stepped before_c before_s p.1 q.1 refl refl in
    still_full (sound.stands new.sound) (g.W.Wire.both new.whole).sound (sound.waiting ran.sound) (sound.waiting new.sound) before_s then.after_s sound.MOST sound.CAP
    then.sound (c.both_legs-console_end.ensures.sound.drain.0 is).1 room))

pub returns-clause-console : goal.returns-clause-console
returns-clause-console g c = record {
  beside = c.step_earlier-stepped.ensures.console.beside;
  room = c.step_earlier-stepped.ensures.console.room;
  done = λ is. omega (arith, c.both_legs-console_end.ensures.console.done.0 is, c.step_earlier-stepped.ensures.console.forward);
  drain = console_full g c;
}

pub returns-clause-sound : goal.returns-clause-sound
returns-clause-sound g c = record {
  beside = c.step_earlier-stepped.ensures.sound.beside;
  room = c.step_earlier-stepped.ensures.sound.room;
  done = λ is. omega (arith, c.both_legs-console_end.ensures.sound.done.0 is, c.step_earlier-stepped.ensures.sound.forward);
  drain = sound_full g c;
}
