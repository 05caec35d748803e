use Rattle.side_law.specs.Tape.{AreBeats}
use Rattle.turn_rows.proofs.tapes.tape.Given as goal

abbrev pub invariant-beats : goal.invariant-beats
invariant-beats l = AreBeats l.region l.beats.items
