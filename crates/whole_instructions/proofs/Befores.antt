-- The processor before its data.
use Rattle.std.proofs.Common.{◌≡◌, ℕ, ◌+◌, ◌<◌, false, slice_index, refl, sym, subst}
use Rattle.cpu_tables.specs.declared.mode.Mode.{Mode}
use Rattle.cpu_tables.specs.declared.opcode.Row.{Row}
use Rattle.cpu_tables.specs.declared.regs.Regs.{Regs}
use Rattle.cpu_modes.specs.Orders.{by_mode, data_at, order}
use Rattle.cpu_modes.specs.Plan.{Plan}
use Rattle.cpu_modes.specs.Remaining.{remaining, Keeps}
use Rattle.cpu_modes.specs.declared.micro.Micro.{Micro}
use Rattle.cpu_modes.specs.declared.place.Reach.{Reach}
use Rattle.cpu_modes.specs.declared.place.Traffic.{Traffic}
use Rattle.beam.specs.Places.{clocks_left}
use Rattle.console_bus.specs.BusState.{BusState}
use Rattle.console_bus.specs.Places.{on_bus}
use Rattle.console_steps.specs.AtOnce.{gone_on}
use Rattle.whole_instructions.specs.Looks.{Looks}
use Rattle.whole_instructions.specs.Fetching.{HasCode, IsOpcodeOf, Reaches, past}
use Rattle.whole_instructions.specs.Runs.{StandsBefore}
use Rattle.whole_instructions.proofs.DataReads.{begins}

pub stands_before : (bus bus' : BusState) (r : Regs) (at clocks before operands to seen all : ℕ) (row : Row) (mode : Mode) (reach : Reach) (d : Traffic) (micro : Micro)
    → HasCode bus r at clocks → IsOpcodeOf bus at row → order row (past r 1) ≡ by_mode mode d row (past r 1)
    → Reaches mode reach bus r d operands before to seen → all ≡ clocks + before → all < clocks_left bus.beam
    → bus' ≡ gone_on (on_bus bus seen) all
    → remaining micro ≡ data_at d reach row (past r (operands + 1)) to → micro.start ≡ r → Keeps false micro
    → StandsBefore r micro bus bus'
stands_before bus bus' r at clocks before operands to seen all row mode reach d micro h is same reaches sum few there left start keeps = record {
  passes = λ begun. (
      let q = data_at d reach row (past r (operands + 1)) to in
      let P : Plan → Type 0 = λ p. (l : ℕ) → Looks bus r p l r q seen before in
      rw (there, left) (begins bus bus r q at clocks before all seen row h is refl refl (subst P (sym same) (λ l. reaches row r l)) sum few begun));
  start = start;
  keeps = keeps;
}
