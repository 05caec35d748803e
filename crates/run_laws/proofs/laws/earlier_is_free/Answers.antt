use Rattle.run_laws.proofs.laws.earlier_is_free.Goals as goal
use Rattle.std.proofs.Common.{arith}
use Rattle.snes_defs.specs.declared.ports.Side.TheVariants.{Console, Sound}
use Rattle.run_laws.proofs.LegalRuns.{earlier_may}

pub returns : goal.returns
returns g c = λ region h console_is sound_is. (
  (λ le. earlier_may region Console (g.C.Machine.moves.stamp h.console.history.now) h.sound.clock
      (g.C.Machine.moves.act h.console.history.now) (omega arith)),
  (λ lt. earlier_may region Sound (g.S.Machine.moves.stamp h.sound.history.now) h.console.clock
      (g.S.Machine.moves.act h.sound.history.now) (omega arith)),
)
