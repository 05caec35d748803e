-- What contracts see of the words. This project's own profile.
use base.Stored.{Coded, Coded-set, coded×, coded_via}
use Rattle.std.specs.Prelude.{◌≡◌}
use Rattle.atomic_table.specs.Seated.{TableId, table_id_coded}
use Rattle.snes_defs.specs.declared.region.Region.{Region}
use Rattle.snes_defs.specs.contracts.region.Region as region

-- which table they are, and their region
pub record WordsKnown : Type 0 where
  pub table : TableId
  pub region : Region

-- so two proofs that words are the same are equal
abbrev words_coded : Coded WordsKnown
words_coded = coded_via (coded× table_id_coded region.the_row.coded) (λ (w : WordsKnown). (w.table, w.region)) (λ x y e i. record { table = (e i).0; region = (e i).1 })

pub words_set : (a b : WordsKnown) → IsProp (a ≡ b)
words_set = Coded-set words_coded
