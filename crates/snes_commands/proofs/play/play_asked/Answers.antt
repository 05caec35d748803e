use Rattle.std.proofs.Common.{rules, ◌≡◌, true, false, nat_eq}
use Rattle.run_io.specs.Settings.{count_set}
use Rattle.run_io.specs.Form.{order_by}
use Rattle.snes_commands.specs.Play.{play_settings}
use Rattle.snes_commands.proofs.PlayLemmas.{took_plain, took_plain_first, took_heard, took_heard_first, on_ok}
use Rattle.snes_commands.proofs.play.play_asked.Goals as goal

pub returns-then-count_set-eq0-clause-whole : goal.returns-then-count_set-eq0-clause-whole
returns-then-count_set-eq0-clause-whole g c =
    let none : nat_eq (count_set c.args.asked.now.pairs.now play_settings) 0 ≡ true = search rules in
    on_ok c.play_sound.result _ _ (λ f. λ w is. took_plain (order_by c.args.asked.now) w _ _ none (f w is)) c.play_sound.ensures.whole

pub returns-then-count_set-eq0-clause-first : goal.returns-then-count_set-eq0-clause-first
returns-then-count_set-eq0-clause-first g c =
    let none : nat_eq (count_set c.args.asked.now.pairs.now play_settings) 0 ≡ true = search rules in
    λ w is. took_plain_first (order_by c.args.asked.now) w _ _ none (c.play_sound.ensures.first w is)

pub returns-clause-whole : goal.returns-clause-whole
returns-clause-whole g c =
    let some : nat_eq (count_set c.args.asked.now.pairs.now play_settings) 0 ≡ false = search rules in
    on_ok c.play_parts.result _ _ (λ f. λ w is. took_heard (order_by c.args.asked.now) w _ _ c.heard_by.result c.heard_by.ensures some (f w is)) c.play_parts.ensures.whole

pub returns-clause-first : goal.returns-clause-first
returns-clause-first g c =
    let some : nat_eq (count_set c.args.asked.now.pairs.now play_settings) 0 ≡ false = search rules in
    λ w is. took_heard_first (order_by c.args.asked.now) w _ _ c.heard_by.result c.heard_by.ensures some (c.play_parts.ensures.first w is)
