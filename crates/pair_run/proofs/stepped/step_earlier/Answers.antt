use Rattle.std.proofs.Common.{◌<◌, ◌≤◌, rules, arith}
use Rattle.std.proofs.lemmas.Grind.{common_steps}
use Rattle.clock_ratio.specs.Stamp.{window_of}
use Rattle.pair_run.proofs.TurnGoesOn.{console_made, sound_made, both_ended}
use Rattle.pair_run.proofs.stepped.step_earlier.Goals as goal

pub returns-then-console_at-end-clause-stepped : goal.returns-then-console_at-end-clause-stepped
returns-then-console_at-end-clause-stepped g c = λ a b on_a on_b a_is b_is.
    let wire = g.W.Wire in
    let console = g.C.Machine in
    let sound = g.S.Machine in
    let c_at = (g.met.C.Machine g.world.𝓛 g.world.𝓜 g.world.𝓡 ((λ s x. x), (λ x. x), (λ x. x), λ x. x)).stands_stamp c.args.console.now a.now on_a in
    let s_at = (g.met.S.Machine g.world.𝓛 g.world.𝓜 g.world.𝓡 ((λ s x. x), (λ x. x), (λ x. x), λ x. x)).stands_stamp c.args.sound.now b.now on_b in
    let first : c.stamp-console_at.result ≤ c.stamp-sound_at.result = search rules in
    both_ended console.moves sound.moves c.args.end (window_of (wire.region_of c.args.wire.now)) (console.stands c.args.console.now) (sound.stands c.args.sound.now)
    (wire.both c.args.whole.now) (wire.both c.args.whole.now) (console.waiting c.args.console.now) (console.waiting c.args.console.now)
    (sound.waiting c.args.sound.now) (sound.waiting c.args.sound.now) a b a_is b_is on_a on_b
    (omega (arith, c_at, s_at, first, c.stamp-console_at.ensures.stamp, c.stamp-sound_at.ensures.stamp, c.if-console_at-end.true)) (omega (arith, c_at, s_at, first, c.stamp-console_at.ensures.stamp, c.stamp-sound_at.ensures.stamp, c.if-console_at-end.true))

pub returns-then-sound_at-end-clause-stepped : goal.returns-then-sound_at-end-clause-stepped
returns-then-sound_at-end-clause-stepped g c = λ a b on_a on_b a_is b_is.
    let wire = g.W.Wire in
    let console = g.C.Machine in
    let sound = g.S.Machine in
    let c_at = (g.met.C.Machine g.world.𝓛 g.world.𝓜 g.world.𝓡 ((λ s x. x), (λ x. x), (λ x. x), λ x. x)).stands_stamp c.args.console.now a.now on_a in
    let s_at = (g.met.S.Machine g.world.𝓛 g.world.𝓜 g.world.𝓡 ((λ s x. x), (λ x. x), (λ x. x), λ x. x)).stands_stamp c.args.sound.now b.now on_b in
    let first : c.stamp-sound_at.result < c.stamp-console_at.result = grind (arith, common_steps) in
    both_ended console.moves sound.moves c.args.end (window_of (wire.region_of c.args.wire.now)) (console.stands c.args.console.now) (sound.stands c.args.sound.now)
    (wire.both c.args.whole.now) (wire.both c.args.whole.now) (console.waiting c.args.console.now) (console.waiting c.args.console.now)
    (sound.waiting c.args.sound.now) (sound.waiting c.args.sound.now) a b a_is b_is on_a on_b
    (omega (arith, c_at, s_at, first, c.stamp-console_at.ensures.stamp, c.stamp-sound_at.ensures.stamp, c.if-sound_at-end.true)) (omega (arith, c_at, s_at, first, c.stamp-console_at.ensures.stamp, c.stamp-sound_at.ensures.stamp, c.if-sound_at-end.true))

pub returns-else-console_at-end-clause-stepped : goal.returns-else-console_at-end-clause-stepped
returns-else-console_at-end-clause-stepped g c = λ a b on_a on_b a_is b_is.
    let wire = g.W.Wire in
    let console = g.C.Machine in
    let sound = g.S.Machine in
    let c_at = (g.met.C.Machine g.world.𝓛 g.world.𝓜 g.world.𝓡 ((λ s x. x), (λ x. x), (λ x. x), λ x. x)).stands_stamp c.args.console.now a.now on_a in
    let s_at = (g.met.S.Machine g.world.𝓛 g.world.𝓜 g.world.𝓡 ((λ s x. x), (λ x. x), (λ x. x), λ x. x)).stands_stamp c.args.sound.now b.now on_b in
    let first : c.stamp-console_at.result ≤ c.stamp-sound_at.result = search rules in
    console_made console.moves sound.moves c.args.end (window_of (wire.region_of c.args.wire.now)) (console.stands c.step_over.new.machine) (sound.stands c.args.sound.now)
    (wire.both c.args.whole.now) (wire.both c.step_over.new.whole) (console.waiting c.args.console.now) (console.waiting c.step_over.new.machine)
    (sound.waiting c.args.sound.now) (sound.waiting c.args.sound.now) a b a_is b_is
    (c.step_over.ensures.made.step a on_a a_is).tried (c.step_over.ensures.made.step a on_a a_is).other on_b
    (omega (arith, c_at, s_at, first, c.stamp-console_at.ensures.stamp, c.stamp-sound_at.ensures.stamp)) (omega (arith, c_at, s_at, first, c.stamp-console_at.ensures.stamp, c.stamp-sound_at.ensures.stamp, c.if-console_at-end.false))

pub returns-else-sound_at-end-clause-stepped : goal.returns-else-sound_at-end-clause-stepped
returns-else-sound_at-end-clause-stepped g c = λ a b on_a on_b a_is b_is.
    let wire = g.W.Wire in
    let console = g.C.Machine in
    let sound = g.S.Machine in
    let c_at = (g.met.C.Machine g.world.𝓛 g.world.𝓜 g.world.𝓡 ((λ s x. x), (λ x. x), (λ x. x), λ x. x)).stands_stamp c.args.console.now a.now on_a in
    let s_at = (g.met.S.Machine g.world.𝓛 g.world.𝓜 g.world.𝓡 ((λ s x. x), (λ x. x), (λ x. x), λ x. x)).stands_stamp c.args.sound.now b.now on_b in
    let first : c.stamp-sound_at.result < c.stamp-console_at.result = grind (arith, common_steps) in
    sound_made console.moves sound.moves c.args.end (window_of (wire.region_of c.args.wire.now)) (console.stands c.args.console.now) (sound.stands c.step_over-else-console_first.new.machine)
    (wire.both c.args.whole.now) (wire.both c.step_over-else-console_first.new.whole) (console.waiting c.args.console.now) (console.waiting c.args.console.now)
    (sound.waiting c.args.sound.now) (sound.waiting c.step_over-else-console_first.new.machine) a b a_is b_is
    (c.step_over-else-console_first.ensures.made.step b on_b b_is).tried (c.step_over-else-console_first.ensures.made.step b on_b b_is).other on_a
    (omega (arith, c_at, s_at, first, c.stamp-console_at.ensures.stamp, c.stamp-sound_at.ensures.stamp)) (omega (arith, c_at, s_at, first, c.stamp-console_at.ensures.stamp, c.stamp-sound_at.ensures.stamp, c.if-sound_at-end.false))
