use Rattle.std.proofs.Common.{◌≡◌, ◌∙◌, sym, rules}
use Rattle.sound_tags.proofs.Search.{no_more, found_it, passed_it, none_left}
use Rattle.sound_tags.proofs.chunk.chunk_before.Goals as goal

pub returns-in_default-clause-chunk : goal.returns-in_default-clause-chunk
returns-in_default-clause-chunk c =
    sym (no_more c.loop-n.n c.args.file.now c.args.end c.loop-n.at c.args.id (search rules) (search rules)) ∙ c.loop-n.invariant

pub returns-then-chunk-id-clause-chunk : goal.returns-then-chunk-id-clause-chunk
returns-then-chunk-id-clause-chunk c =
    sym (found_it c.loop-n.n c.args.file.now c.args.end c.loop-n.at c.args.id c.in-Some.chunk (search rules) (search rules) (search rules)) ∙ c.loop-n.invariant

pub loop-n-preserved : goal.loop-n-preserved
loop-n-preserved c =
    sym (passed_it c.loop-n.n c.args.file.now c.args.end c.loop-n.at c.args.id c.in-Some.chunk (search rules) (search rules) (search rules)) ∙ c.loop-n.invariant

pub returns-clause-chunk : goal.returns-clause-chunk
returns-clause-chunk c =
    sym (none_left c.loop-n.n c.args.file.now c.args.end c.loop-n.at c.args.id (search rules)) ∙ c.loop-n.invariant
