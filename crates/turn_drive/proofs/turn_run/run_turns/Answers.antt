use Rattle.std.proofs.Common.{◌+◌, ◌*◌, ◌≤◌, subst, rules, arith}
use Rattle.run_drive.proofs.Running.{whole_is_first}
use Rattle.turn_drive.proofs.Going.{bound_of, going_starts, going_nearer, going_is_short, going_is_bounded, turns_are_few, going_on, going_stops, going_is_made, going_is_whole}
use Rattle.turn_drive.proofs.turn_run.run_turns.Given.{Over}
use Rattle.turn_drive.proofs.turn_run.run_turns.Goals as goal

pub loop-ends-init : goal.loop-ends-init
loop-ends-init g c = record {
  going = λ m n console sound.
      let C = g.C.Machine in
      let S = g.S.Machine in
      let of_console = g.met.C.Machine g.world.𝓛 g.world.𝓜 g.world.𝓡 ((λ s x. x), (λ x. x), (λ x. x), λ x. x) in
      let of_sound = g.met.S.Machine g.world.𝓛 g.world.𝓜 g.world.𝓡 ((λ s x. x), (λ x. x), (λ x. x), λ x. x) in
      let region = g.W.Wire.region_of c.args.wire.now in
      let console_ok = subst (λ r. C.valid r m) c.requires.console_region (of_console.stands_valid c.args.console m console) in
      let sound_ok = subst (λ r. S.valid r n) c.requires.sound_region (of_sound.stands_valid c.args.sound n sound) in
      going_starts region (C.valid region) (S.valid region) C.MOST S.MOST C.moves S.moves (of_console.lawful region) (of_sound.lawful region) m n console_ok sound_ok
      _ _ _ _ _ console sound c.requires.no_console_entries c.requires.no_sound_entries c.requires.no_video c.requires.no_sound;
  of = search rules;
  console = search rules;
  sound = search rules;
  console_empty = search rules;
  sound_empty = search rules;
  to_end = search rules;
  few = search rules;
  only = search rules;
}

pub loop-ends-preserved-then-both_at : goal.loop-ends-preserved-then-both_at
loop-ends-preserved-then-both_at g c = record {
  going = λ m n console sound. going_nearer g.C.Machine.moves g.S.Machine.moves m n _ _ _ _ _ _ _ c.go_on.ensures.stays (c.loop-ends.invariant.going m n console sound);
  of = search rules;
  console = search rules;
  sound = search rules;
  console_empty = search rules;
  sound_empty = search rules;
  to_end = search rules;
  few = search rules;
  only = search rules;
}

-- with one turn more there are still no more than twice the stamps of the near end
few : (g : Over) (c : goal.In_ok-pour_both g) → c.loop-ends.turns + 1 ≤ 2 * c.loop-ends.ends.near
few g c =
    bound_of (g.C.Machine.stands c.args.console) (g.S.Machine.stands c.args.sound) _ _ c.stamp.ensures.stands c.stamp-2.ensures.stands (λ m n console sound.
    let C = g.C.Machine in
    let S = g.S.Machine in
    let of_console = g.met.C.Machine g.world.𝓛 g.world.𝓜 g.world.𝓡 ((λ s x. x), (λ x. x), (λ x. x), λ x. x) in
    let of_sound = g.met.S.Machine g.world.𝓛 g.world.𝓜 g.world.𝓡 ((λ s x. x), (λ x. x), (λ x. x), λ x. x) in
    let region = g.W.Wire.region_of c.args.wire.now in
    let console_ok = subst (λ r. C.valid r m) c.requires.console_region (of_console.stands_valid c.args.console m console) in
    let sound_ok = subst (λ r. S.valid r n) c.requires.sound_region (of_sound.stands_valid c.args.sound n sound) in
    let going = c.loop-ends.invariant.going m n console sound in
    let turned = c.turn-turned.ensures.turned m n console_ok sound_ok going.c going.s going.on going.console_now going.sound_now going.console_entries going.sound_entries in
    turns_are_few region (C.valid region) (S.valid region) C.MOST S.MOST C.moves S.moves (of_console.lawful region) (of_sound.lawful region) m n console_ok sound_ok
    c.loop-ends.ends.near c.loop-ends.turns (C.stands c.loop-ends.console.value) (C.stands c.turn-turned.new.console) (S.stands c.loop-ends.sound.value) (S.stands c.turn-turned.new.sound)
    (g.W.Wire.both c.loop-ends.whole) (g.W.Wire.both c.turn-turned.result.whole) (g.K.Sink.holds c.loop-ends.sink) (C.waiting c.loop-ends.console.value) (C.waiting c.turn-turned.new.console)
    (S.waiting c.loop-ends.sound.value) (S.waiting c.turn-turned.new.sound) c.turn-turned.result.console c.turn-turned.result.sound c.turn-turned.result.stepped going turned)

pub loop-ends-smaller : goal.loop-ends-smaller
loop-ends-smaller g c = omega (arith, few g c, c.loop-ends.ends.within, c.loop-ends.invariant.to_end)

pub loop-ends-preserved : goal.loop-ends-preserved
loop-ends-preserved g c = record {
  going = λ m n console sound.
      let C = g.C.Machine in
      let S = g.S.Machine in
      let of_console = g.met.C.Machine g.world.𝓛 g.world.𝓜 g.world.𝓡 ((λ s x. x), (λ x. x), (λ x. x), λ x. x) in
      let of_sound = g.met.S.Machine g.world.𝓛 g.world.𝓜 g.world.𝓡 ((λ s x. x), (λ x. x), (λ x. x), λ x. x) in
      let region = g.W.Wire.region_of c.args.wire.now in
      let console_ok = subst (λ r. C.valid r m) c.requires.console_region (of_console.stands_valid c.args.console m console) in
      let sound_ok = subst (λ r. S.valid r n) c.requires.sound_region (of_sound.stands_valid c.args.sound n sound) in
      let going = c.loop-ends.invariant.going m n console sound in
      let turned = c.turn-turned.ensures.turned m n console_ok sound_ok going.c going.s going.on going.console_now going.sound_now going.console_entries going.sound_entries in
      going_on region (C.valid region) (S.valid region) C.MOST S.MOST C.moves S.moves (of_console.lawful region) (of_sound.lawful region) m n console_ok sound_ok
      c.loop-ends.ends.near c.loop-ends.turns (C.stands c.loop-ends.console.value) (C.stands c.turn-turned.new.console) (S.stands c.loop-ends.sound.value) (S.stands c.turn-turned.new.sound)
      (g.W.Wire.both c.loop-ends.whole) (g.W.Wire.both c.turn-turned.result.whole) (g.K.Sink.holds c.loop-ends.sink) (C.waiting c.loop-ends.console.value) (C.waiting c.turn-turned.new.console)
      (S.waiting c.loop-ends.sound.value) (S.waiting c.turn-turned.new.sound) c.turn-turned.result.console c.turn-turned.result.sound c.turn-turned.result.stepped going turned
      (g.K.Sink.holds c.pour_both.new.sink) c.loop-ends.invariant.console_empty c.loop-ends.invariant.sound_empty
      (C.stands c.pour_both.new.console) (S.stands c.pour_both.new.sound) c.pour_both.ensures.console_state c.pour_both.ensures.sound_state c.in_ok-pour_both.ensures.video c.in_ok-pour_both.ensures.audio;
  of = search rules;
  console = search rules;
  sound = search rules;
  console_empty = search rules;
  sound_empty = search rules;
  to_end = search rules;
  few = omega (arith, few g c, c.loop-ends.ends.within, c.loop-ends.invariant.to_end);
  only = g.met.K.Sink.takes_more _ _ _ c.loop-ends.invariant.only c.pour_both.ensures.only;
}

pub returns-in_err-pour_both-clause-first : goal.returns-in_err-pour_both-clause-first
returns-in_err-pour_both-clause-first g c = λ m n console sound.
    let C = g.C.Machine in
    let S = g.S.Machine in
    let of_console = g.met.C.Machine g.world.𝓛 g.world.𝓜 g.world.𝓡 ((λ s x. x), (λ x. x), (λ x. x), λ x. x) in
    let of_sound = g.met.S.Machine g.world.𝓛 g.world.𝓜 g.world.𝓡 ((λ s x. x), (λ x. x), (λ x. x), λ x. x) in
    let region = g.W.Wire.region_of c.args.wire.now in
    let console_ok = subst (λ r. C.valid r m) c.requires.console_region (of_console.stands_valid c.args.console m console) in
    let sound_ok = subst (λ r. S.valid r n) c.requires.sound_region (of_sound.stands_valid c.args.sound n sound) in
    let going = c.loop-ends.invariant.going m n console sound in
    let turned = c.turn-turned.ensures.turned m n console_ok sound_ok going.c going.s going.on going.console_now going.sound_now going.console_entries going.sound_entries in
    going_stops region (C.valid region) (S.valid region) C.MOST S.MOST C.moves S.moves (of_console.lawful region) (of_sound.lawful region) m n console_ok sound_ok
    c.loop-ends.ends.near c.loop-ends.turns (C.stands c.loop-ends.console.value) (C.stands c.turn-turned.new.console) (S.stands c.loop-ends.sound.value) (S.stands c.turn-turned.new.sound)
    (g.W.Wire.both c.loop-ends.whole) (g.W.Wire.both c.turn-turned.result.whole) (g.K.Sink.holds c.loop-ends.sink) (C.waiting c.loop-ends.console.value) (C.waiting c.turn-turned.new.console)
    (S.waiting c.loop-ends.sound.value) (S.waiting c.turn-turned.new.sound) c.turn-turned.result.console c.turn-turned.result.sound c.turn-turned.result.stepped going turned
    (g.K.Sink.holds c.pour_both.new.sink) c.loop-ends.invariant.console_empty c.loop-ends.invariant.sound_empty
    c.args.end (omega (arith, c.loop-ends.ends.within, c.loop-ends.invariant.to_end)) c.in_err-pour_both.ensures.some_video c.in_err-pour_both.ensures.some_audio

pub returns-clause-whole : goal.returns-clause-whole
returns-clause-whole g c = λ m n console sound.
    let C = g.C.Machine in
    let S = g.S.Machine in
    let of_console = g.met.C.Machine g.world.𝓛 g.world.𝓜 g.world.𝓡 ((λ s x. x), (λ x. x), (λ x. x), λ x. x) in
    let of_sound = g.met.S.Machine g.world.𝓛 g.world.𝓜 g.world.𝓡 ((λ s x. x), (λ x. x), (λ x. x), λ x. x) in
    let region = g.W.Wire.region_of c.args.wire.now in
    let console_ok = subst (λ r. C.valid r m) c.requires.console_region (of_console.stands_valid c.args.console m console) in
    let sound_ok = subst (λ r. S.valid r n) c.requires.sound_region (of_sound.stands_valid c.args.sound n sound) in
    let going = c.loop-ends.invariant.going m n console sound in
    going_is_whole region (C.valid region) (S.valid region) C.MOST S.MOST C.moves S.moves (of_console.lawful region) (of_sound.lawful region) m n console_ok sound_ok
    _ _ _ _ _ _ _ (omega (arith, c.loop-ends.ends.within, c.loop-ends.invariant.to_end)) going
    (search (rules, of_console.stands_stamp c.loop-ends.console.value going.c.now going.console_now))
    (search (rules, of_sound.stands_stamp c.loop-ends.sound.value going.s.now going.sound_now))

pub returns-clause-made : goal.returns-clause-made
returns-clause-made g c = λ m n console sound.
    let C = g.C.Machine in
    let S = g.S.Machine in
    let of_console = g.met.C.Machine g.world.𝓛 g.world.𝓜 g.world.𝓡 ((λ s x. x), (λ x. x), (λ x. x), λ x. x) in
    let of_sound = g.met.S.Machine g.world.𝓛 g.world.𝓜 g.world.𝓡 ((λ s x. x), (λ x. x), (λ x. x), λ x. x) in
    let region = g.W.Wire.region_of c.args.wire.now in
    let console_ok = subst (λ r. C.valid r m) c.requires.console_region (of_console.stands_valid c.args.console m console) in
    let sound_ok = subst (λ r. S.valid r n) c.requires.sound_region (of_sound.stands_valid c.args.sound n sound) in
    let going = c.loop-ends.invariant.going m n console sound in
    going_is_made region (C.valid region) (S.valid region) C.MOST S.MOST C.moves S.moves (of_console.lawful region) (of_sound.lawful region) m n console_ok sound_ok
    _ _ _ _ _ _ _ going
    (search (rules, of_console.stands_stamp c.loop-ends.console.value going.c.now going.console_now))
    (search (rules, of_sound.stands_stamp c.loop-ends.sound.value going.s.now going.sound_now))

pub returns-clause-first : goal.returns-clause-first
returns-clause-first g c = λ m n console sound.
    whole_is_first g.C.Machine.moves g.S.Machine.moves g.C.Machine.stands g.S.Machine.stands c.args.end m n _ (returns-clause-whole g c m n console sound)

pub returns-clause-turns : goal.returns-clause-turns
returns-clause-turns g c = λ m n most console sound runs.
    going_is_short g.C.Machine.moves g.S.Machine.moves m n _ c.args.end _ most _ _ _ _ (omega (arith, c.loop-ends.ends.within, c.loop-ends.invariant.to_end))
    (c.loop-ends.invariant.going m n console sound) runs

pub returns-clause-bounded : goal.returns-clause-bounded
returns-clause-bounded g c = λ m n frames console sound console_first sound_first by_a_cycle e.
    let C = g.C.Machine in
    let S = g.S.Machine in
    let of_console = g.met.C.Machine g.world.𝓛 g.world.𝓜 g.world.𝓡 ((λ s x. x), (λ x. x), (λ x. x), λ x. x) in
    let of_sound = g.met.S.Machine g.world.𝓛 g.world.𝓜 g.world.𝓡 ((λ s x. x), (λ x. x), (λ x. x), λ x. x) in
    let region = g.W.Wire.region_of c.args.wire.now in
    let console_ok = subst (λ r. C.valid r m) c.requires.console_region (of_console.stands_valid c.args.console m console) in
    let sound_ok = subst (λ r. S.valid r n) c.requires.sound_region (of_sound.stands_valid c.args.sound n sound) in
    going_is_bounded region (C.valid region) (S.valid region) C.MOST S.MOST C.moves S.moves (of_console.lawful region) (of_sound.lawful region) m n console_ok sound_ok by_a_cycle
    _ c.args.end _ frames _ _ _ _ (omega (arith, c.loop-ends.ends.within, c.loop-ends.invariant.to_end))
    (c.loop-ends.invariant.going m n console sound) console_first sound_first e
