use Rattle.std.proofs.Common.{◌≡◌, ◌≤◌, ℕ, ap, sym, subst, refl, arith, length}
use Rattle.std.proofs.lemmas.Grind.{common_steps}
use Rattle.snes_defs.specs.declared.ports.Side.TheVariants.{Sound}
use Rattle.run_drive.specs.Run.{Adds, AddsSome}
use Rattle.spc_player.specs.Player.{PlayerValue, TookPairs}
use Rattle.spc_player.proofs.Pairs.{HasPlayed, lent_plays, play_goes_on, play_is_whole, play_pours, play_starts, play_stops, whole_is_some}
use Rattle.spc_player.proofs.player.Player.play.Goals.{then-pending-gt-MANY+in-Ok, else-pending-gt-MANY}
use Rattle.spc_player.proofs.player.Player.play.Goals as goal

pub samples-init : goal.samples-init
samples-init g c = record {
  played = λ w h. play_starts c.args.self.now (g.K.Sink.holds c.args.sink.now Sound) w c.requires.empty h;
  few = omega (arith, ap (length {A = ℕ}) c.requires.empty);
  early = c.requires.early;
  room = refl;
  other = λ other had differ held. held;
  only = g.met.K.Sink.takes_none _;
}

pub returns-in_default-clause-first : goal.returns-in_default-clause-first
returns-in_default-clause-first g c = λ w h.
    play_stops c.samples.self _ (g.K.Sink.holds c.samples.sink Sound) _ w c.samples.k c.args.samples (omega (arith, c.samples-test.true)) (c.samples.invariant.played w h)
    (subst (λ (p : PlayerValue). AddsSome (g.K.Sink.holds c.samples.sink Sound) (g.K.Sink.holds c.pour.new.sink Sound) p.side.waiting) c.self.view_is c.in_default.ensures.some)

pub samples-preserved : goal.samples-preserved
samples-preserved g c = record {
  played = λ w h.
      let from = g.K.Sink.holds c.args.sink.now Sound in
      let k = c.samples.k in
      let before = c.samples.invariant.played w h in
      let now : HasPlayed c.if-pending-gt-MANY.self from (g.K.Sink.holds c.if-pending-gt-MANY.sink Sound) w k =
      elim c.if-pending-gt-MANY.branch [
        | then-pending-gt-MANY+in-Ok b ↦
            let lent : PlayerValue = record { side = b.pour.new.machine; ports = c.self.inside.ports } in
            let adds = subst (λ (p : PlayerValue). Adds (g.K.Sink.holds c.samples.sink Sound) (g.K.Sink.holds b.pour.new.sink Sound) p.side.waiting) c.self.view_is b.in-Ok.ensures.whole in
            subst (λ (p : PlayerValue). HasPlayed p from (g.K.Sink.holds c.if-pending-gt-MANY.sink Sound) w k) (sym b.self-is)
            (subst (λ (x : g.row.K.Denot). HasPlayed lent from (g.K.Sink.holds x Sound) w k) (sym b.sink-is)
            (play_pours c.samples.self lent from (g.K.Sink.holds c.samples.sink Sound) (g.K.Sink.holds b.pour.new.sink Sound) w k before
            (lent_plays c.self.inside.side b.pour.new.machine c.self.inside.ports c.samples.self c.self.view_is b.pour.ensures.state) b.pour.ensures.empty adds))
        | else-pending-gt-MANY b ↦
            subst (λ (p : PlayerValue). HasPlayed p from (g.K.Sink.holds c.if-pending-gt-MANY.sink Sound) w k) (sym b.self-is)
            (subst (λ (x : g.row.K.Denot). HasPlayed c.samples.self from (g.K.Sink.holds x Sound) w k) (sym b.sink-is) before)
      ] in
      play_goes_on c.if-pending-gt-MANY.self c.to_next_sample.new.self from (g.K.Sink.holds c.if-pending-gt-MANY.sink Sound) w k now c.to_next_sample.ensures.next c.to_next_sample.ensures.emits;
  few = grind (arith, common_steps);
  early = grind (arith, common_steps);
  room = grind (arith, common_steps);
  other = grind (arith, common_steps);
  only = elim c.if-pending-gt-MANY.branch [
    | then-pending-gt-MANY+in-Ok b ↦
        subst (λ (x : g.row.K.Denot). g.K.Sink.only_takes c.args.sink.now x) (sym b.sink-is) (g.met.K.Sink.takes_more _ _ _ c.samples.invariant.only b.pour.ensures.only)
    | else-pending-gt-MANY b ↦ subst (λ (x : g.row.K.Denot). g.K.Sink.only_takes c.args.sink.now x) (sym b.sink-is) c.samples.invariant.only
  ];
}

pub returns-in_default-pour-clause-first : goal.returns-in_default-pour-clause-first
returns-in_default-pour-clause-first g c = λ w h.
    let all : c.samples.k ≤ c.args.samples = omega (arith, c.samples.auto.k-end) in
    play_stops c.samples.self _ (g.K.Sink.holds c.samples.sink Sound) _ w c.samples.k c.args.samples all (c.samples.invariant.played w h)
    (subst (λ (p : PlayerValue). AddsSome (g.K.Sink.holds c.samples.sink Sound) (g.K.Sink.holds c.pour-2.new.sink Sound) p.side.waiting) c.self-2.view_is c.in_default-pour.ensures.some)

pub returns-clause-whole : goal.returns-clause-whole
returns-clause-whole g c = λ w h.
    let all : c.samples.k ≡ c.args.samples = omega (arith, c.samples-test.false, c.samples.auto.k-end) in
    subst (λ (n : ℕ). TookPairs w n (g.K.Sink.holds c.args.sink.now Sound) (g.K.Sink.holds c.pour-2.new.sink Sound)) all
    (play_is_whole c.samples.self _ (g.K.Sink.holds c.samples.sink Sound) _ w c.samples.k (c.samples.invariant.played w h)
    (subst (λ (p : PlayerValue). Adds (g.K.Sink.holds c.samples.sink Sound) (g.K.Sink.holds c.pour-2.new.sink Sound) p.side.waiting) c.self-2.view_is c.in-Ok-pour.ensures.whole))

pub returns-clause-first : goal.returns-clause-first
returns-clause-first g c = λ w h.
    let all : c.samples.k ≡ c.args.samples = omega (arith, c.samples-test.false, c.samples.auto.k-end) in
    whole_is_some _ _ w c.args.samples
    (subst (λ (n : ℕ). TookPairs w n (g.K.Sink.holds c.args.sink.now Sound) (g.K.Sink.holds c.pour-2.new.sink Sound)) all
    (play_is_whole c.samples.self _ (g.K.Sink.holds c.samples.sink Sound) _ w c.samples.k (c.samples.invariant.played w h)
    (subst (λ (p : PlayerValue). Adds (g.K.Sink.holds c.samples.sink Sound) (g.K.Sink.holds c.pour-2.new.sink Sound) p.side.waiting) c.self-2.view_is c.in-Ok-pour.ensures.whole)))
