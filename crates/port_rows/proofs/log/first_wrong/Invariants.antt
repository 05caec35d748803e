use Rattle.std.proofs.Common.{◌≡◌}
use Rattle.port_rows.proofs.log.first_wrong.Given as goal

abbrev pub invariant-calls : goal.invariant-calls
invariant-calls l = l.log.region ≡ l.region
