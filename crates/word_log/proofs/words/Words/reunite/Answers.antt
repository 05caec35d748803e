use Rattle.std.proofs.Common.{◌≡◌, None, ap, sym, ◌∙◌, subst, arith}
use Rattle.snes_defs.specs.declared.ports.Side.{Side}
use Rattle.snes_defs.specs.declared.ports.Side.TheVariants.{Console, Sound}
use Rattle.port_log.specs.Kept.{other_side}
use Rattle.port_wire.specs.Seen.{AreReunited}
use Rattle.port_wire.specs.Seen as seen
use Rattle.word_log.specs.Known.{half_option, half_in, has}
use Rattle.word_log.specs.Passes.{shown}
use Rattle.word_log.specs.Wholes.{FewUnheard}
use Rattle.word_log.proofs.Seats.{seats-joined}
use Rattle.word_log.proofs.Reuniting.{console-joined, sound-joined, has-console-joined, has-sound-joined, reunited-by, few-by}
use Rattle.word_log.proofs.words.Words.reunite.Goals as goal

pub join_seat-requires : goal.join_seat-requires
join_seat-requires c =
    let first : c.console.inside.side ≡ Console = ap (λ w. w.side) c.console.view_is ∙ c.requires.console_side in (
      ap (λ w. w.words.table) c.console.view_is ∙ ap (λ p. p.table) c.requires.console_of ∙ sym (ap (λ p. p.table) c.self.view_is),
      ap (λ w. w.words.table) c.sound.view_is ∙ ap (λ p. p.table) c.requires.sound_of ∙ sym (ap (λ p. p.table) c.self.view_is),
      c.sound.invariant.no_slot,
      omega (arith, c.self.invariant.0),
      seats-joined _ _ _ _ _ (subst (λ (s : Side). has s c.console.inside.seat.me.0 ≡ 1) first c.console.invariant.half),
    )

pub returns-clause-reunited : goal.returns-clause-reunited
returns-clause-reunited c =
    let v = c.console.inside.seat.me.0 in
    let w = c.sound.inside.seat.me.0 in
    let first : c.console.inside.side ≡ Console = ap (λ p. p.side) c.console.view_is ∙ c.requires.console_side in
    let second : c.sound.inside.side ≡ Sound = ap (λ p. p.side) c.sound.view_is ∙ c.requires.sound_side in
    let one : has Console v ≡ 1 = subst (λ (s : Side). has s v ≡ 1) first c.console.invariant.half in
    let two : has Sound w ≡ 1 = subst (λ (s : Side). has s w ≡ 1) second c.sound.invariant.half in
    let none : v.sound ≡ None = subst (λ (s : Side). half_option (other_side s) v ≡ None) first c.console.invariant.no_other in
    let is = ap (λ m. m.0) c.join_seat.ensures.2 in
    let console : shown (half_in Console v) c.console.inside.counts ≡ c.args.console.half =
    ap (λ (s : Side). shown (half_in s v) c.console.inside.counts) (sym first) ∙ ap (λ p. p.half) c.console.view_is in
    let sound : shown (half_in Sound w) c.sound.inside.counts ≡ c.args.sound.half =
    ap (λ (s : Side). shown (half_in s w) c.sound.inside.counts) (sym second) ∙ ap (λ p. p.half) c.sound.view_is in
    subst (λ (h : seen.Half). AreReunited h c.args.sound.half) console
    (subst (λ (h : seen.Half). AreReunited (shown (half_in Console v) c.console.inside.counts) h) sound
    (reunited-by c.join_seat.new.seat.me.0 c.look.new.seat.me.0 (half_in Console v) (half_in Sound w) c.look.ensures.told
    (ap (has Console) is ∙ has-console-joined v w one) (ap (has Sound) is ∙ has-sound-joined v w none two)
    (ap (half_in Console) is ∙ console-joined v w one) (ap (half_in Sound) is ∙ sound-joined v w none)
    c.console.inside.counts c.sound.inside.counts))

pub returns-clause-few : goal.returns-clause-few
returns-clause-few c =
    let v = c.console.inside.seat.me.0 in
    let w = c.sound.inside.seat.me.0 in
    let first : c.console.inside.side ≡ Console = ap (λ p. p.side) c.console.view_is ∙ c.requires.console_side in
    let second : c.sound.inside.side ≡ Sound = ap (λ p. p.side) c.sound.view_is ∙ c.requires.sound_side in
    let one : has Console v ≡ 1 = subst (λ (s : Side). has s v ≡ 1) first c.console.invariant.half in
    let two : has Sound w ≡ 1 = subst (λ (s : Side). has s w ≡ 1) second c.sound.invariant.half in
    let none : v.sound ≡ None = subst (λ (s : Side). half_option (other_side s) v ≡ None) first c.console.invariant.no_other in
    let is = ap (λ m. m.0) c.join_seat.ensures.2 in
    let console : shown (half_in Console v) c.console.inside.counts ≡ c.args.console.half =
    ap (λ (s : Side). shown (half_in s v) c.console.inside.counts) (sym first) ∙ ap (λ p. p.half) c.console.view_is in
    let sound : shown (half_in Sound w) c.sound.inside.counts ≡ c.args.sound.half =
    ap (λ (s : Side). shown (half_in s w) c.sound.inside.counts) (sym second) ∙ ap (λ p. p.half) c.sound.view_is in
    subst (λ (h : seen.Half). FewUnheard h c.args.sound.half) console
    (subst (λ (h : seen.Half). FewUnheard (shown (half_in Console v) c.console.inside.counts) h) sound
    (few-by c.join_seat.new.seat.me.0 c.look.new.seat.me.0 (half_in Console v) (half_in Sound w) c.look.ensures.told
    (ap (has Console) is ∙ has-console-joined v w one) (ap (has Sound) is ∙ has-sound-joined v w none two)
    (ap (half_in Console) is ∙ console-joined v w one) (ap (half_in Sound) is ∙ sound-joined v w none)
    c.console.inside.counts c.sound.inside.counts))
