use Rattle.std.proofs.Common.{◌≡◌}
use Rattle.snes_defs.specs.declared.ports.Side.TheVariants.{Console, Sound}
use Rattle.port_rows.proofs.passes.first_wrong.Given as goal

abbrev pub invariant-calls : goal.invariant-calls
invariant-calls g l =
    let wire = g.W.Wire in
    record {
      console_of : wire.is_pass_of l.wire l.console;
      sound_of : wire.is_pass_of l.wire l.sound;
      console_side : (wire.seen l.console).side ≡ Console;
      sound_side : (wire.seen l.sound).side ≡ Sound;
    }
