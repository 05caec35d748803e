use Rattle.std.proofs.Common.{◌≡◌, ℕ, zero, suc, zero-add, ◌+◌, ◌<◌, List, [], ◌∷◌, Option, Some, map, length, get_or, refl, arith, sym, ap, ◌∙◌, add-zero}
use Rattle.spc_tables.specs.declared.opcode.SpcRow.{SpcRow}
use Rattle.spc_tables.specs.declared.rows.TheConstants.{ROWS}
use Rattle.spc_tables.specs.Opcodes.{others, moves, matrix, entry_of, row_of}

-- what the opcodes from k on mean, as many as the table has rows
unfoldable pub rows_from : List SpcRow → ℕ → List (Option SpcRow)
rows_from [] k = []
rows_from (r ∷ rs) k = row_of k ∷ rows_from rs (suc k)

some_injective : (x y : SpcRow) → Some x ≡ Some y → x ≡ y
some_injective x y e = cc

-- a table whose rows are those of the opcodes from k on gives the row of each of them
pub row_at : (t : List SpcRow) (k i : ℕ) (d : SpcRow) → map Some t ≡ rows_from t k → i < length t → row_of (k + i) ≡ Some (get_or t i d)
unfolding rows_from
row_at [] k i d e h = absurd (omega arith)
row_at (r ∷ rs) k zero d e h = rw add-zero cc
row_at (r ∷ rs) k (suc i) d e h =
    let tail : map Some rs ≡ rows_from rs (suc k) = cc in
    let place : k + suc i ≡ suc k + i = omega arith in
    rw place (row_at rs (suc k) i d tail (omega arith))

-- the same for a whole table of n rows
pub row_in_matrix : (t : List SpcRow) (n i : ℕ) (d : SpcRow) → length t ≡ n → map Some t ≡ rows_from t 0 → i < n → row_of i ≡ Some (get_or t i d)
row_in_matrix t n i d whole e h = ap row_of (sym (zero-add i)) ∙ row_at t 0 i d e (omega arith)

-- the code's table is the matrix, opcode by opcode
rows_agree : map Some ROWS ≡ rows_from ROWS 0
unfolding rows_from row_of matrix others moves entry_of
rows_agree = refl

pub row_of_table : (i : ℕ) (d : SpcRow) → i < 256 → row_of i ≡ Some (get_or ROWS i d)
row_of_table i d h = row_in_matrix ROWS 256 i d refl rows_agree h
