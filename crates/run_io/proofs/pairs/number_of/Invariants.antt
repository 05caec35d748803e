use Rattle.std.proofs.Common.{◌≡◌, ◌^◌, ◌<◌, drop}
use Rattle.run_io.specs.Number.{number_of, number_after}
use Rattle.run_io.proofs.pairs.number_of.Given as goal

abbrev pub invariant-loop-digit : goal.invariant-loop-digit
invariant-loop-digit l =
    (l.number < 10 ^ l.digit-index) × (number_after l.number (drop l.digit-index l.digits) ≡ number_of l.digits)
