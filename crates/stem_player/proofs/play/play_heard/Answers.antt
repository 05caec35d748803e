use Rattle.std.proofs.Common.{◌≡◌, ◌∙◌, ◌≤◌, ℕ, List, length, ap, sym, subst, arith}
use Rattle.std.proofs.lemmas.Grind.{common_steps}
use Rattle.snes_defs.specs.declared.ports.Side.TheVariants.{Sound}
use Rattle.run_drive.specs.Run.{Adds}
use Rattle.stem_player.specs.Heard.{heard_pairs}
use Rattle.stem_player.proofs.Gathered.{HasHeard, all_is_some, hearing_goes_on, hearing_hands_on, hearing_is_whole, hearing_starts, hearing_stops}
use Rattle.stem_player.proofs.play.play_heard.Goals.{then-len-gt-MANY+in-Ok, else-len-gt-MANY}
use Rattle.stem_player.proofs.play.play_heard.Goals as goal

pub samples-init : goal.samples-init
samples-init g c = record {
  heard = λ w h. hearing_starts c.args.heard.now c.args.player.now c.new-buffer.result.items (g.K.Sink.holds c.args.sink.now Sound) w c.args.samples c.new-buffer.ensures h;
  empty = c.requires.empty;
  few = omega (arith, ap (length {A = ℕ}) c.new-buffer.ensures);
  early = c.requires.early;
  other = λ other had differ held. held;
  only = g.met.K.Sink.takes_none _;
}

pub returns-in_default-clause-first : goal.returns-in_default-clause-first
returns-in_default-clause-first g c = λ w h.
    hearing_stops c.args.heard.now c.samples.player c.samples.buffer.items (g.K.Sink.holds c.args.sink.now Sound) (g.K.Sink.holds c.samples.sink Sound) (g.K.Sink.holds c.pass_on.new.sink Sound) w c.args.samples c.samples.k (omega (arith, c.samples-test.true))
    (c.samples.invariant.heard w h) c.in_default.ensures.some

pub samples-preserved : goal.samples-preserved
samples-preserved g c = record {
  heard = λ w h.
      let from = g.K.Sink.holds c.args.sink.now Sound in
      let k = c.samples.k in
      let before = c.samples.invariant.heard w h in
      let now : HasHeard c.args.heard.now c.samples.player c.if-len-gt-MANY.buffer.items from (g.K.Sink.holds c.if-len-gt-MANY.sink Sound) w c.args.samples k =
      elim c.if-len-gt-MANY.branch [
        | then-len-gt-MANY+in-Ok b ↦
            subst (λ (x : g.row.K.Denot). HasHeard c.args.heard.now c.samples.player c.if-len-gt-MANY.buffer.items from (g.K.Sink.holds x Sound) w c.args.samples k) (sym b.sink-is)
            (hearing_hands_on c.args.heard.now c.samples.player c.samples.buffer.items c.if-len-gt-MANY.buffer.items from (g.K.Sink.holds c.samples.sink Sound) (g.K.Sink.holds b.pass_on.new.sink Sound) w c.args.samples k before
            (ap (λ v. v.items) b.buffer-is ∙ b.in-Ok.ensures.empty) b.in-Ok.ensures.whole)
        | else-len-gt-MANY b ↦
            subst (λ (x : g.row.K.Denot). HasHeard c.args.heard.now c.samples.player c.if-len-gt-MANY.buffer.items from (g.K.Sink.holds x Sound) w c.args.samples k) (sym b.sink-is)
            (subst (λ (l : List ℕ). HasHeard c.args.heard.now c.samples.player l from (g.K.Sink.holds c.samples.sink Sound) w c.args.samples k) (sym (ap (λ v. v.items) b.buffer-is)) before)
      ] in
      hearing_goes_on c.args.heard.now c.samples.player c.next_heard-bytes.new.player c.if-len-gt-MANY.buffer.items c.next_heard-bytes.result c.gather.new.buffer.items from (g.K.Sink.holds c.if-len-gt-MANY.sink Sound) w c.args.samples k now
      c.gather.ensures.items c.next_heard-bytes.ensures.next c.next_heard-bytes.ensures.bytes;
  empty = c.next_heard-bytes.ensures.none_left;
  few = grind (arith, common_steps);
  early = grind (arith, common_steps);
  other = grind (arith, common_steps);
  only = elim c.if-len-gt-MANY.branch [
    | then-len-gt-MANY+in-Ok b ↦
        subst (λ (x : g.row.K.Denot). g.K.Sink.only_takes c.args.sink.now x) (sym b.sink-is) (g.met.K.Sink.takes_more _ _ _ c.samples.invariant.only b.pass_on.ensures.only)
    | else-len-gt-MANY b ↦ subst (λ (x : g.row.K.Denot). g.K.Sink.only_takes c.args.sink.now x) (sym b.sink-is) c.samples.invariant.only
  ];
}

pub returns-in_default-pass_on-clause-first : goal.returns-in_default-pass_on-clause-first
returns-in_default-pass_on-clause-first g c = λ w h.
    let all : c.samples.k ≤ c.args.samples = omega (arith, c.samples.auto.k-end) in
    hearing_stops c.args.heard.now c.samples.player c.samples.buffer.items (g.K.Sink.holds c.args.sink.now Sound) (g.K.Sink.holds c.samples.sink Sound) (g.K.Sink.holds c.pass_on-2.new.sink Sound) w c.args.samples c.samples.k all
    (c.samples.invariant.heard w h) c.in_default-pass_on.ensures.some

pub returns-clause-first : goal.returns-clause-first
returns-clause-first g c = λ w h.
    let all : c.samples.k ≡ c.args.samples = omega (arith, c.samples-test.false, c.samples.auto.k-end) in
    all_is_some (g.K.Sink.holds c.args.sink.now Sound) (g.K.Sink.holds c.pass_on-2.new.sink Sound) (heard_pairs c.args.heard.now w c.args.samples c.args.samples)
    (subst (λ (n : ℕ). Adds (g.K.Sink.holds c.args.sink.now Sound) (g.K.Sink.holds c.pass_on-2.new.sink Sound) (heard_pairs c.args.heard.now w c.args.samples n)) all
    (hearing_is_whole c.args.heard.now c.samples.player c.samples.buffer.items (g.K.Sink.holds c.args.sink.now Sound) (g.K.Sink.holds c.samples.sink Sound) (g.K.Sink.holds c.pass_on-2.new.sink Sound) w c.args.samples c.samples.k (c.samples.invariant.heard w h)
    c.in-Ok-pass_on.ensures.whole))
