-- The SPC700 over a memory: what an access makes of both.
use Rattle.std.specs.Prelude.{slice_index, slice_set}
use Rattle.spc_tables.specs.declared.access.SpcAccess.{SpcAccess}
use Rattle.spc_tables.specs.declared.access.SpcAccess.TheVariants.{Fetch, Read, Write, Inner}
use Rattle.spc700.specs.Instruction.{SpcState, next_of, moved_on}
use Rattle.processor_laws.specs.Flat.{Flat}

-- one access: a fetch and a read get the byte of the memory, a write changes it
abbrev pub made : SpcAccess → Flat SpcState → Flat SpcState
made (Fetch at) f = record f { processor = moved_on f.processor (slice_index f.bytes at) }
made (Read at) f = record f { processor = moved_on f.processor (slice_index f.bytes at) }
made (Write at byte) f = record { processor = moved_on f.processor 0; bytes = slice_set f.bytes at byte }
made Inner f = record f { processor = moved_on f.processor 0 }

abbrev pub after_access : Flat SpcState → Flat SpcState
after_access f = made (next_of f.processor) f
