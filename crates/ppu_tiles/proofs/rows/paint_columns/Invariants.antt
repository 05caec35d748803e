use Rattle.std.proofs.Common.{◌≡◌, ℕ, ◌*◌, ◌/◌, ◌%◌, ◌<◌, List, slice_index}
use Rattle.ppu_regs.specs.Reads.{bit_of}
use Rattle.ppu_regs.specs.Picture.{Picture}
use Rattle.ppu_tiles.specs.Columns.{column_value, column_base, column_first}
use Rattle.ppu_tiles.proofs.rows.paint_columns.Given as goal

-- the first c columns are painted
pub record ArePainted (p : Picture) (layer y odd low high c : ℕ) (values bases firsts : List ℕ) : Type 0 where
  pub values_done : (k : ℕ) → k < 8 * c → slice_index values k ≡ column_value p layer y odd (k / 8) (k % 8)
  pub bases_done : (k : ℕ) → k < 8 * c → slice_index bases k ≡ column_base p layer y low high (k / 8)
  pub firsts_done : (k : ℕ) → k < 8 * c → slice_index firsts k ≡ column_first p layer y (k / 8)

abbrev pub invariant-loop-c : goal.invariant-loop-c
invariant-loop-c l = ArePainted l.p l.layer l.y (bit_of l.odd) l.low l.high l.c l.values l.bases l.firsts
