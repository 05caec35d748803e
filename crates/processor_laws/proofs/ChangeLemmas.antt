use Rattle.std.proofs.Common.{◌≡◌, ℕ, ◌%◌, Bool, true, false, not, nat_eq, reverse, refl, sym, subst}
use Rattle.cpu_tables.specs.declared.mode.Mode.{Mode}
use Rattle.cpu_tables.specs.declared.mode.Mode.TheVariants.{Direct, DirectX, Absolute, AbsoluteX}
use Rattle.cpu_tables.specs.declared.opcode.Row.{Row}
use Rattle.cpu_tables.specs.declared.operation.Op.{Op}
use Rattle.cpu_tables.specs.declared.operation.Op.TheVariants.{Asl, Dec, Inc, Lsr, Rol, Ror, Trb, Tsb}
use Rattle.cpu_tables.specs.declared.regs.Regs.{Regs}
use Rattle.cpu_modes.specs.Addresses.{code, direct, fetched, has_index_cycle, in_bank, indexed, is_wide, join}
use Rattle.cpu_modes.specs.Orders.{after_offset, by_mode, change, data_at, idles_if, order, order_by}
use Rattle.cpu_modes.specs.Plan.{Plan}
use Rattle.cpu_modes.specs.Uses.{use_of}
use Rattle.cpu_modes.specs.declared.place.DirectKind.{DirectKind}
use Rattle.cpu_modes.specs.declared.place.Direction.{Direction}
use Rattle.cpu_modes.specs.declared.place.Reach.{Reach}
use Rattle.cpu_modes.specs.declared.place.Traffic.{Traffic}
use Rattle.cpu_modes.specs.declared.uses.Use.{Use}
use Rattle.cpu_modes.specs.declared.uses.Width.{Width}
use Rattle.processor_laws.specs.Changes.{changes, is_memory, places_read, places_written}
use Rattle.processor_laws.specs.Outcomes.{Memory}

-- what is to be shown of an order
abbrev WritesWhatItReads : Plan → Memory → Type 0
WritesWhatItReads plan m = places_written plan m ≡ reverse (places_read plan m)

-- the data itself, of one byte or two
of_change : (wide : Bool) (reach : Reach) (row : Row) (r : Regs) (at : ℕ) (m : Memory) → WritesWhatItReads (change (record { direction = Direction.Change; wide = wide }) reach row r at) m
of_change true reach row r at m = refl
of_change false reach row r at m = refl

of_idles_if : (there : Bool) (plan : Plan) (m : Memory) → WritesWhatItReads plan m → WritesWhatItReads (idles_if there plan) m
of_idles_if true plan m h = h
of_idles_if false plan m h = h

use_of-changes : (op : Op) → changes op ≡ true → use_of op ≡ Use.Change Width.Memory
unfolding use_of
use_of-changes Asl h = refl
use_of-changes Dec h = refl
use_of-changes Inc h = refl
use_of-changes Lsr h = refl
use_of-changes Rol h = refl
use_of-changes Ror h = refl
use_of-changes Trb h = refl
use_of-changes Tsb h = refl
use_of-changes _ h = cc

abbrev traffic : Bool → Traffic
traffic wide = record { direction = Direction.Change; wide = wide }

-- the word of the two bytes after an opcode
abbrev word_at : Regs → Memory → ℕ
word_at r m = join (m (code r)) (m (code (fetched r)))

of_mode : (mode : Mode) (wide : Bool) (row : Row) (r : Regs) (m : Memory) → is_memory mode ≡ true → WritesWhatItReads (by_mode mode (traffic wide) row r) m
of_mode Direct wide row r m h =
    of_idles_if (not (nat_eq (r.d % 256) 0)) (after_offset DirectKind.Plain (traffic wide) row (fetched r) (m (code r))) m
    (of_change wide Reach.NextInBankZero row (fetched r) (direct (fetched r) (m (code r)) 0) m)
of_mode DirectX wide row r m h =
    of_idles_if (not (nat_eq (r.d % 256) 0)) (after_offset DirectKind.X (traffic wide) row (fetched r) (m (code r))) m
    (of_change wide Reach.NextInBankZero row (fetched r) (direct (fetched r) (m (code r)) r.x) m)
of_mode Absolute wide row r m h = of_change wide Reach.NextAddress row (fetched (fetched r)) (in_bank r.dbr (word_at r m)) m
of_mode AbsoluteX wide row r m h =
    of_idles_if (has_index_cycle (traffic wide) (fetched (fetched r)) (in_bank r.dbr (word_at r m)) r.x) (data_at (traffic wide) Reach.NextAddress row (fetched (fetched r)) (indexed (in_bank r.dbr (word_at r m)) r.x)) m
    (of_change wide Reach.NextAddress row (fetched (fetched r)) (indexed (in_bank r.dbr (word_at r m)) r.x) m)
of_mode _ wide row r m h = cc

pub change_writes_places_read : (op : Op) (mode : Mode) (r : Regs) (m : Memory) → changes op ≡ true → is_memory mode ≡ true → WritesWhatItReads (order (record { op = op; mode = mode }) r) m
change_writes_places_read op mode r m c h =
    subst (λ (u : Use). WritesWhatItReads (order_by u (record { op = op; mode = mode }) r) m) (sym (use_of-changes op c)) (of_mode mode (is_wide Width.Memory r) (record { op = op; mode = mode }) r m h)
