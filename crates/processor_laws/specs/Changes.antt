-- The places that an instruction reads and writes, and which operations change memory in which modes.
use Rattle.std.specs.Prelude.{ℕ, Bool, true, false, List, [], ◌∷◌}
use Rattle.cpu_tables.specs.declared.mode.Mode.{Mode}
use Rattle.cpu_tables.specs.declared.mode.Mode.TheVariants.{Direct, DirectX, Absolute, AbsoluteX}
use Rattle.cpu_tables.specs.declared.operation.Op.{Op}
use Rattle.cpu_tables.specs.declared.operation.Op.TheVariants.{Asl, Dec, Inc, Lsr, Rol, Ror, Trb, Tsb}
use Rattle.cpu_modes.specs.Plan.{Plan, fetches, reads, writes, idles, waits, stops, ends}
use Rattle.processor_laws.specs.Outcomes.{Memory, stored}

-- the places that an instruction reads besides its own bytes, in their order
abbrev pub places_read : Plan → Memory → List ℕ
places_read (fetches at more) m = places_read (more (m at)) m
places_read (reads at more) m = at ∷ places_read (more (m at)) m
places_read (writes at byte more) m = places_read more (stored m at byte)
places_read (idles more) m = places_read more m
places_read (waits r) m = []
places_read stops m = []
places_read (ends r) m = []

-- the places that it writes
abbrev pub places_written : Plan → Memory → List ℕ
places_written (fetches at more) m = places_written (more (m at)) m
places_written (reads at more) m = places_written (more (m at)) m
places_written (writes at byte more) m = at ∷ places_written more (stored m at byte)
places_written (idles more) m = places_written more m
places_written (waits r) m = []
places_written stops m = []
places_written (ends r) m = []

-- the operations that change their operand
abbrev pub changes : Op → Bool
changes Asl = true
changes Dec = true
changes Inc = true
changes Lsr = true
changes Rol = true
changes Ror = true
changes Trb = true
changes Tsb = true
changes _ = false

-- the modes in which they do so in memory
abbrev pub is_memory : Mode → Bool
is_memory Direct = true
is_memory DirectX = true
is_memory Absolute = true
is_memory AbsoluteX = true
is_memory _ = false
