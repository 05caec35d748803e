use Rattle.std.proofs.Common.{subst}
use Rattle.console_machine.specs.Side.{ConsoleValue, IsSome}
use Rattle.console_machine.proofs.side.ConsoleSide.standing.Goals as goal

pub returns : goal.returns
returns c = let P : ConsoleValue → Type 0 = λ v. IsSome v in subst P c.self.view_is c.self.invariant.0
