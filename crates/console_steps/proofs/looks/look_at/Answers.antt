use Rattle.std.proofs.Common.{rules, ◌≡◌, ℕ, None, Option, IfSome, subst}
use Rattle.cpu_tables.specs.declared.access.Access.TheVariants.{Read}
use Rattle.console_bus.specs.BusState.{BusState}
use Rattle.console_steps.specs.Plain.{IsLook}
use Rattle.console_steps.proofs.looks.look_at.Goals as goal

pub returns-in_default-clause-looks : goal.returns-in_default-clause-looks
returns-in_default-clause-looks c =
    let none : c.read_plainly.result ≡ None = search rules in
    let P : BusState → Type 0 = λ r. IfSome c.read_still.result (λ (clocks : ℕ). IsLook r (Read c.args.addr)) in
    subst P (c.read_plainly.ensures.bus_stays none) c.read_still.ensures.looks
