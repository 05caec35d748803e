use Rattle.std.proofs.Common.{◌≡◌}
use Rattle.snes_defs.specs.declared.region.Region.TheVariants.{Ntsc}
use Rattle.port_rows.proofs.log.first_refused_of_a_window.Given as goal

abbrev pub invariant-writes : goal.invariant-writes
invariant-writes l = l.log.region ≡ Ntsc
