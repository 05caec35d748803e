use Rattle.std.proofs.Common.{arith, take, subst}
use Rattle.std.proofs.lemmas.List.{take_rest}
use Rattle.std.specs.Io.KnownBytes.{Appends}
use Rattle.file_shelf.proofs.EdgeLemmas.{more_written}
use Rattle.file_shelf.proofs.buffered.write_whole.Goals as goal

pub loop-count-preserved : goal.loop-count-preserved
loop-count-preserved g c =
    let before = g.W.Write.contents c.loop-count.file in
    let after = g.W.Write.contents c.write.new.self in
    record {
      within = grind arith;
      written = more_written _ _ _ c.args.bytes.now c.loop-count.count c.in-Ok.more c.loop-count.invariant.written
          (subst (λ l. Appends before after (take c.in-Ok.more l)) (take_rest c.args.bytes.now c.loop-count.count) c.in-Ok.ensures.bytes);
    }
