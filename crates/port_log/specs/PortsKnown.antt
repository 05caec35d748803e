-- What contracts see of the ports. This project's own profile.
use base.Stored.{Coded, Coded-set, coded×, coded_via}
use Rattle.std.specs.Prelude.{◌≡◌}
use Rattle.atomic_table.specs.Seated.{TableId, table_id_coded}
use Rattle.snes_defs.specs.declared.region.Region.{Region}
use Rattle.snes_defs.specs.contracts.region.Region as region

-- which two tables they are, and their region
pub record PortsKnown : Type 0 where
  pub lock : TableId
  pub list : TableId
  pub region : Region

-- so two proofs that ports are the same are equal
abbrev ports_coded : Coded PortsKnown
ports_coded = coded_via (coded× table_id_coded (coded× table_id_coded region.the_row.coded)) (λ (p : PortsKnown). (p.lock, (p.list, p.region)))
    (λ x y e i. record { lock = (e i).0; list = (e i).1.0; region = (e i).1.1 })

pub ports_set : (a b : PortsKnown) → IsProp (a ≡ b)
ports_set = Coded-set ports_coded
