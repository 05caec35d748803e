use Rattle.std.proofs.Common.{subst}
use Rattle.snes_commands.specs.Run.{AreReady}
use Rattle.snes_commands.proofs.run.play_by.Goals as goal

pub play_serial-requires-clause-at_start : goal.play_serial-requires-clause-at_start
play_serial-requires-clause-at_start g c =
    let h = c.requires.at_start in
    (h.0, subst (λ m. AreReady g.P.Player.plays g.P.TurnPlayer.turns m h.0) c.in-Serial.is h.1)

pub play_turns-requires-clause-at_start : goal.play_turns-requires-clause-at_start
play_turns-requires-clause-at_start g c =
    let h = c.requires.at_start in
    (h.0, subst (λ m. AreReady g.P.Player.plays g.P.TurnPlayer.turns m h.0) c.in-Turns.is h.1)

pub play_words-requires-clause-at_start : goal.play_words-requires-clause-at_start
play_words-requires-clause-at_start g c =
    let h = c.requires.at_start in
    (h.0, subst (λ m. AreReady g.P.Player.plays g.P.TurnPlayer.turns m h.0) c.in-Words.is h.1)
