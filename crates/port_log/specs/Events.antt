-- The entries that a call adds to its side's list.
use Rattle.std.specs.Prelude.{List, [], ◌∷◌}
use Rattle.port_entries.specs.Entry.{Entry, WriteAt, ClearAt}
use Rattle.port_log.specs.declared.event.Event.{Event}
use Rattle.port_log.specs.declared.event.Event.TheVariants.{Nothing, Wrote, Cleared}

abbrev pub entries_of : Event → List Entry
entries_of Nothing = []
entries_of (Wrote at port byte) = WriteAt at port byte ∷ []
entries_of (Cleared at mask) = ClearAt at mask ∷ []
