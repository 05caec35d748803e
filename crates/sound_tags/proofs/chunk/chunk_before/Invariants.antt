use Rattle.std.proofs.Common.{◌≡◌, ◌-◌}
use Rattle.sound_tags.specs.Chunks.{chunk_from}
use Rattle.sound_tags.proofs.chunk.chunk_before.Given as goal

-- a search from here on finds what one from the first chunk on does
abbrev pub invariant-loop-n : goal.invariant-loop-n
invariant-loop-n l = chunk_from (l.end - l.n) l.file l.end l.at l.id ≡ chunk_from l.end l.file l.end 0x10208 l.id
