-- The 65C816 over a memory: what an access makes of both.
use Rattle.std.specs.Prelude.{slice_index, slice_set}
use Rattle.cpu_tables.specs.declared.access.Access.{Access}
use Rattle.cpu_tables.specs.declared.access.Access.TheVariants.{Fetch, Read, Write, Inner}
use Rattle.cpu65816.specs.Instruction.{CpuState, next_of, moved_on}
use Rattle.processor_laws.specs.Flat.{Flat}

-- one access: a fetch and a read get the byte of the memory, a write changes it
abbrev pub made : Access → Flat CpuState → Flat CpuState
made (Fetch at) f = record f { processor = moved_on f.processor (slice_index f.bytes at) }
made (Read at) f = record f { processor = moved_on f.processor (slice_index f.bytes at) }
made (Write at byte) f = record { processor = moved_on f.processor 0; bytes = slice_set f.bytes at byte }
made Inner f = record f { processor = moved_on f.processor 0 }

abbrev pub after_access : Flat CpuState → Flat CpuState
after_access f = made (next_of f.processor) f
