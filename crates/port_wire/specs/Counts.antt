-- The tally of refused calls, as the code keeps it. This project's own profile.
use Rattle.std.specs.Prelude.{ℕ, ◌+◌, ◌==◌, nat_lt, Bool, false, ◌&&◌, Option, None, Some, option_map, Result, Ok, Err, if◌then◌else◌}
use Rattle.port_wire.specs.declared.late.CallName.{CallName}
use Rattle.port_wire.specs.declared.late.PassLate.{PassLate}
use Rattle.port_wire.specs.declared.late.PassLate.TheVariants.{Ahead}
use Rattle.port_wire.specs.Tally.{Tally, same_name, after_refusal, after_answer}
use Rattle.port_wire.specs.Tally as tally
use Rattle.port_wire.specs.declared.counts.Counts.{Counts}
use Rattle.port_wire.specs.declared.counts.Refusal.{Refusal}

abbrev pub refused_by : Refusal → tally.Refused
refused_by r = record { name = r.name; at = r.at; late = r.late }

abbrev pub tally_of : Counts → Tally
tally_of c = record { refused = c.refused; row = c.row; last = option_map refused_by c.last }

-- whether a call goes on with the row of the last refusal
abbrev pub is_again_by : Option Refusal → CallName → ℕ → Bool
is_again_by None name at = false
is_again_by (Some r) name at = same_name r.name name && (r.at == at)

-- the tally after a call, by its answer
abbrev pub tally_after : {A : Type 0} → CallName → ℕ → Result A PassLate → Tally → Tally
tally_after name at (Ok x) t = after_answer t
tally_after name at (Err late) t = after_refusal t name at late

-- an advance counts as refused too where the clock that it was told is too early for a step at its stamp
abbrev pub counted_as : ℕ → ℕ → Result ℕ PassLate → Result ℕ PassLate
counted_as window at (Ok other) = if nat_lt (other + window) at then Err (Ahead at other) else Ok other
counted_as window at (Err late) = Err late
