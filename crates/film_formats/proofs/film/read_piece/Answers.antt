use Rattle.std.proofs.Common.{rules}
use Rattle.film_formats.proofs.ReadLemmas.{more_read}
use Rattle.film_formats.proofs.film.read_piece.Goals as goal

pub loop-at-preserved : goal.loop-at-preserved
loop-at-preserved g c =
    (search rules, more_read _ _ _ c.loop-at.at _ c.in_ok-count.count c.loop-at.into c.read.new.buf c.loop-at.invariant.0 c.in_ok-count.ensures.bound.0 c.loop-at.invariant.1 c.in_ok-count.ensures.bytes.0)
