-- A shelf in memory whose calls fail where it was planned.
use Rattle.std.specs.Prelude.{ℕ, Bool, ◌||◌, is_none, List, [], ◌∷◌, ◌++◌, slice_index, slice_set, Option, Some, None, if◌then◌else◌}
use Rattle.shelf.specs.Counts.{next, counted, none_counted}
use Rattle.shelf.specs.declared.counts.Counts.{Counts}
use Rattle.shelf.specs.declared.shelves.Out.{Out}
use Rattle.memory_shelves.specs.Stored.{Stored, held_in, place_of, holding, blank, added, output_of, with_output, nothing_stored}
use Rattle.memory_shelves.specs.declared.plan.ShelfCall.{ShelfCall}
use Rattle.memory_shelves.specs.Plan.{Planned, nothing_planned, load_fails, create_fails, put_fails, after_load, after_create, after_put}

-- The faults of loads: one count for each file, in the order of the files, and one that all names
-- which are not held share.
pub record LoadFaults : Type 0 where
  pub held : List ℕ
  pub shared : ℕ

pub record Memory : Type 0 where
  pub stored : Stored
  pub plan : Planned
  pub load_faults : LoadFaults
  pub write_faults : Counts

-- the count at a place, or the shared one
abbrev pub fault_count : LoadFaults → Option ℕ → ℕ
fault_count faults None = faults.shared
fault_count faults (Some place) = slice_index faults.held place

-- the counts after one more fault there
abbrev pub raised : LoadFaults → Option ℕ → LoadFaults
raised faults None = record faults { shared = next faults.shared }
raised faults (Some place) = record faults { held = slice_set faults.held place (next (slice_index faults.held place)) }

-- the load faults of a name
abbrev pub faults_of : Memory → List ℕ → ℕ
faults_of m name = fault_count m.load_faults (place_of m.stored.files name)

-- the next load of this name fails: it was planned, or no such file is held
abbrev pub load_failing : Memory → List ℕ → Bool
load_failing m name = load_fails m.plan || is_none (held_in m.stored.files name)

-- the shelf after a load
abbrev pub loaded : Memory → List ℕ → Memory
loaded m name = record m {
  plan = after_load m.plan;
  load_faults = if load_failing m name then raised m.load_faults (place_of m.stored.files name) else m.load_faults;
}

-- the shelf after a create: the output is as it was where the call failed
abbrev pub created : Memory → Out → List ℕ → Memory
created m out name = record m {
  stored = if create_fails m.plan then m.stored else with_output m.stored out (blank name (output_of m.stored out).room);
  plan = after_create m.plan;
  write_faults = if create_fails m.plan then counted m.write_faults out else m.write_faults;
}

-- the shelf after a put: the output is as it was where the call failed
abbrev pub filled : Memory → Out → List ℕ → Memory
filled m out bytes = record m {
  stored = if put_fails m.plan out then m.stored else with_output m.stored out (added (output_of m.stored out) bytes);
  plan = after_put m.plan out;
  write_faults = if put_fails m.plan out then counted m.write_faults out else m.write_faults;
}

-- The shelf with one more file. Its count of faults begins where that of its name stood.
abbrev pub given : Memory → List ℕ → List ℕ → Memory
given m name bytes = record m {
  stored = holding m.stored name bytes;
  load_faults = record m.load_faults { held = faults_of m name ∷ m.load_faults.held };
}

-- the shelf with one more planned failure
abbrev pub planned : Memory → ShelfCall → ℕ → Memory
planned m call nth = record m {
  plan = record m.plan { failures = m.plan.failures ++ record { call = call; nth = nth } ∷ [] };
}

-- a new shelf
abbrev pub empty_memory : ℕ → Memory
empty_memory room = record {
  stored = nothing_stored room;
  plan = nothing_planned;
  load_faults = record { held = []; shared = 0 };
  write_faults = none_counted;
}
