use Rattle.std.proofs.Common.{◌≡◌, ℕ, Bool, true, false, if◌then◌else◌, sym, ap}
use Rattle.cpu_tables.specs.declared.opcode.Row.{Row}
use Rattle.cpu_tables.specs.declared.regs.Regs.{Regs}
use Rattle.cpu_modes.specs.Addresses.{second}
use Rattle.cpu_modes.specs.Orders.{fetch, pull, done, load, load_high, immediate, immediate_high, pull_data, pull_high}
use Rattle.cpu_modes.specs.Plan.{reads}
use Rattle.cpu_modes.specs.declared.place.Reach.{Reach}
use Rattle.cpu_modes.specs.declared.place.Traffic.{Traffic}

-- The orders of data ask for its width after its low byte; the places ask before it.

pub narrow_immediate : (d : Traffic) (row : Row) (r : Regs) → d.wide ≡ false → fetch r (λ byte r'. done row r' byte) ≡ immediate d row r
narrow_immediate d row r h = ap (λ (w : Bool). fetch r (λ low r'. if w then immediate_high row r' low else done row r' low)) (sym h)

pub wide_immediate : (d : Traffic) (row : Row) (r : Regs) → d.wide ≡ true → fetch r (λ low r'. immediate_high row r' low) ≡ immediate d row r
wide_immediate d row r h = ap (λ (w : Bool). fetch r (λ low r'. if w then immediate_high row r' low else done row r' low)) (sym h)

pub narrow_load : (d : Traffic) (reach : Reach) (row : Row) (r : Regs) (at : ℕ) → d.wide ≡ false → reads at (λ byte. done row r byte) ≡ load d reach row r at
narrow_load d reach row r at h = ap (λ (w : Bool). reads at (λ low. if w then load_high row r (second reach at) low else done row r low)) (sym h)

pub wide_load : (d : Traffic) (reach : Reach) (row : Row) (r : Regs) (at : ℕ) → d.wide ≡ true → reads at (λ low. load_high row r (second reach at) low) ≡ load d reach row r at
wide_load d reach row r at h = ap (λ (w : Bool). reads at (λ low. if w then load_high row r (second reach at) low else done row r low)) (sym h)

pub narrow_pull : (d : Traffic) (row : Row) (r : Regs) → d.wide ≡ false → pull r (λ byte r'. done row r' byte) ≡ pull_data d row r
narrow_pull d row r h = ap (λ (w : Bool). pull r (λ low r'. if w then pull_high row r' low else done row r' low)) (sym h)

pub wide_pull : (d : Traffic) (row : Row) (r : Regs) → d.wide ≡ true → pull r (λ low r'. pull_high row r' low) ≡ pull_data d row r
wide_pull d row r h = ap (λ (w : Bool). pull r (λ low r'. if w then pull_high row r' low else done row r' low)) (sym h)
