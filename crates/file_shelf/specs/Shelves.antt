-- What the shelf over real files shows.
use Rattle.std.specs.Prelude.{None}
use Rattle.shelf.specs.Shown.{Shown}
use Rattle.shelf.specs.Counts.{count_of}
use Rattle.file_shelf.specs.Edge.{Edge, kept_in}

-- a shelf over real files: it tells how much is not yet written, and its counts
abbrev pub shown_by_files : Edge → Shown
shown_by_files e = record {
  held = λ name. None;
  written = λ out. None;
  named = λ out. None;
  unwritten = λ out. (kept_in e out).unwritten;
  load_faults = λ name. e.loads;
  write_faults = λ out. count_of e.writes out;
}
