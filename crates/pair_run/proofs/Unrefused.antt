-- What the earlier side asks of a whole is settled.
use Rattle.std.proofs.Common.{ℕ, ◌≤◌, arith}
use Rattle.snes_defs.specs.declared.ports.Side.{Side}
use Rattle.snes_defs.specs.declared.ports.Side.TheVariants.{Console, Sound}
use Rattle.port_entries.specs.Window.{IsSettled}
use Rattle.port_wire.specs.declared.late.PassLate.{PassLate}
use Rattle.port_wire.specs.declared.late.PassLate.TheVariants.{Behind, Ahead, Held}
use Rattle.port_wire.specs.Whole.{IsUnsettled, IsBeyond}

pub settled_soon : (side : Side) (at clock : ℕ) → IsSettled side at clock → at ≤ clock
settled_soon Console at clock h = h
settled_soon Sound at clock h = omega (arith, h)

pub settled_refused : (side : Side) (at clock : ℕ) (late : PassLate) → IsSettled side at clock → IsUnsettled side at clock late → ⊥
settled_refused side at clock (Behind need other) settled h = h.2 settled
settled_refused side at clock (Ahead too other) settled h = h
settled_refused side at clock (Held by) settled h = h

pub within_refused : (window at clock : ℕ) (late : PassLate) → at ≤ clock → IsBeyond window at clock late → ⊥
within_refused window at clock (Behind need other) le h = h
within_refused window at clock (Ahead too other) le h = h.2 (omega (arith, le))
within_refused window at clock (Held by) le h = h
