-- That a log stands for given entries has one proof at most, so that a type can keep it as a fact of its own.
use Rattle.std.specs.Prelude.{ℕ, List, [], ◌∷◌}
use Rattle.std.specs.List.{AllByRecursion, AllByRecursion-prop}
use Rattle.std.specs.Coded.{Unit-prop, le_prop}
use Rattle.std.proofs.Props.{props}
use Rattle.snes_defs.specs.declared.ports.Side.{Side}
use Rattle.snes_defs.specs.declared.ports.Side.TheVariants.{Console, Sound}
use Rattle.port_entries.specs.Entry.{Entry, WriteAt, ClearAt, CarriesByte, CarryBytes}
use Rattle.port_log.specs.Kept.{LogValue, clock_of, other_clock}
use Rattle.port_log.specs.Entries.{Entries, made_by, IsWrittenAfter, WritesRiseBelow, IsSettledClear, StandsFor}

IsWrittenAfter-prop : (at : ℕ) (e : Entry) → IsProp (IsWrittenAfter at e)
IsWrittenAfter-prop at (WriteAt later port byte) = le_prop
IsWrittenAfter-prop at (ClearAt later mask) = Unit-prop

WritesRiseBelow-prop : (clock : ℕ) (es : List Entry) → IsProp (WritesRiseBelow clock es)
WritesRiseBelow-prop clock [] = Unit-prop
WritesRiseBelow-prop clock (WriteAt at port byte ∷ es) =
    let after = AllByRecursion-prop (IsWrittenAfter at) (IsWrittenAfter-prop at) es in
    let rest = WritesRiseBelow-prop clock es in
    hlevel (props, after, rest)
WritesRiseBelow-prop clock (ClearAt at mask ∷ es) = WritesRiseBelow-prop clock es

CarriesByte-prop : (e : Entry) → IsProp (CarriesByte e)
CarriesByte-prop (WriteAt at port byte) = le_prop
CarriesByte-prop (ClearAt at mask) = Unit-prop

IsSettledClear-prop : (side : Side) (other : ℕ) (e : Entry) → IsProp (IsSettledClear side other e)
IsSettledClear-prop side other (WriteAt at port byte) = Unit-prop
IsSettledClear-prop Console other (ClearAt at mask) = le_prop
IsSettledClear-prop Sound other (ClearAt at mask) = le_prop

pub StandsFor-prop : (log : LogValue) (entries : Entries) → IsProp (StandsFor log entries)
StandsFor-prop log entries =
    let rises : (side : Side) → IsProp (WritesRiseBelow (clock_of side log) (made_by side entries)) =
    λ side. WritesRiseBelow-prop (clock_of side log) (made_by side entries) in
    let bytes : (side : Side) → IsProp (CarryBytes (made_by side entries)) =
    λ side. AllByRecursion-prop CarriesByte CarriesByte-prop (made_by side entries) in
    let settled : (side : Side)
    → IsProp (AllByRecursion (IsSettledClear side (other_clock side log)) (made_by side entries)) =
    λ side.
    AllByRecursion-prop (IsSettledClear side (other_clock side log))
    (IsSettledClear-prop side (other_clock side log)) (made_by side entries) in
    hlevel (props, rises, bytes, settled)
