use Rattle.snes_defs.specs.declared.region.Region.TheVariants.{Ntsc}
use Rattle.side_law.specs.Tape.{AreBeats}
use Rattle.turn_rows.proofs.tapes.writes_and_reads.Given as goal

abbrev pub invariant-writes : goal.invariant-writes
invariant-writes l = AreBeats Ntsc l.writes.items

abbrev pub invariant-reads : goal.invariant-reads
invariant-reads l = AreBeats Ntsc l.reads.items
