-- The tally that a pass keeps of its refused calls. This project's own profile.
use Rattle.std.specs.Prelude.{◌≡◌, ℕ, ◌+◌, ◌-◌, ◌^◌, ◌==◌, ◌≤◌, ◌⊎◌, Bool, true, false, ◌&&◌, Option, None, Some, if◌then◌else◌}
use Rattle.port_wire.specs.declared.late.PassLate.{PassLate}
use Rattle.port_wire.specs.declared.late.CallName.{CallName}
use Rattle.port_wire.specs.declared.late.CallName.TheVariants.{Read, Clear, Write, Advance}

-- two names of calls are the same
abbrev pub same_name : CallName → CallName → Bool
same_name Read Read = true
same_name Clear Clear = true
same_name Write Write = true
same_name Advance Advance = true
same_name Read Clear = false
same_name Read Write = false
same_name Read Advance = false
same_name Clear Read = false
same_name Clear Write = false
same_name Clear Advance = false
same_name Write Read = false
same_name Write Clear = false
same_name Write Advance = false
same_name Advance Read = false
same_name Advance Clear = false
same_name Advance Write = false

-- a call by its name and stamp, and its refusal
pub record Refused : Type 0 where
  pub name : CallName
  pub at : ℕ
  pub late : PassLate

pub record Tally : Type 0 where
  -- how many calls were refused
  pub refused : ℕ
  -- how many of the last calls in a row were refused, all of one name and at one stamp
  pub row : ℕ
  -- the last refused call
  pub last : Option Refused

-- no call was made yet
abbrev pub no_tally : Tally
no_tally = record { refused = 0; row = 0; last = None }

-- a count of 64 bits, which stands still at its end
abbrev pub counted_on : ℕ → ℕ
counted_on n = if n == 2 ^ 64 - 1 then n else n + 1

-- whether the row goes on: the last refused call had this name and this stamp
abbrev pub is_again : Option Refused → CallName → ℕ → Bool
is_again None name at = false
is_again (Some r) name at = same_name r.name name && (r.at == at)

-- the tally after a call that was refused, and after one that was answered
abbrev pub after_refusal : Tally → CallName → ℕ → PassLate → Tally
after_refusal t name at late = record {
  refused = counted_on t.refused;
  row = counted_on (if is_again t.last name at then t.row else 0);
  last = Some (record { name = name; at = at; late = late });
}

abbrev pub after_answer : Tally → Tally
after_answer t = record t { row = 0 }

-- a count rose by at least so much, or stands at its end
abbrev pub HasRisenBy : ℕ → ℕ → ℕ → Type 0
HasRisenBy some before after = (before + some ≤ after) ⊎ (after ≡ 2 ^ 64 - 1)
