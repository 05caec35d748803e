-- The table has the bits of each byte.
use Rattle.std.proofs.Common.{arith, subst, sym, ◌≤◌}
use Rattle.tile_cache.proofs.Packing.{table_at, bits_small}
use Rattle.tile_cache.proofs.eights.spread.Goals as goal

pub returns-clause-value : goal.returns-clause-value
returns-clause-value c = table_at c.args.byte (omega arith)

pub returns-clause-small : goal.returns-clause-small
returns-clause-small c = subst (λ n. n ≤ 0x101010101010101) (sym (table_at c.args.byte (omega arith))) (bits_small c.args.byte)
