-- What the two shelves in memory show.
use Rattle.std.specs.Prelude.{[], Some, None, unwrap_or}
use Rattle.shelf.specs.Shown.{Shown}
use Rattle.shelf.specs.Counts.{count_of}
use Rattle.memory_shelves.specs.Stored.{Stored, held_in, output_of, told}
use Rattle.memory_shelves.specs.Memory.{Memory, faults_of}

-- a shelf in memory that never fails: a name of no file has no bytes
abbrev pub shown_by_sure : Stored → Shown
shown_by_sure s = record {
  held = λ name. Some (unwrap_or (held_in s.files name) []);
  written = λ out. told (output_of s out);
  named = λ out. Some (output_of s out).name;
  unwritten = λ out. 0;
  load_faults = λ name. 0;
  write_faults = λ out. 0;
}

-- a shelf in memory whose calls fail where it was planned
abbrev pub shown_by_memory : Memory → Shown
shown_by_memory m = record {
  held = λ name. held_in m.stored.files name;
  written = λ out. told (output_of m.stored out);
  named = λ out. Some (output_of m.stored out).name;
  unwritten = λ out. 0;
  load_faults = λ name. faults_of m name;
  write_faults = λ out. count_of m.write_faults out;
}
