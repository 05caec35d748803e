use Rattle.std.proofs.Common.{◌≡◌}
use Rattle.case_text.specs.Generator.{numbers_after, byte_after}
use Rattle.case_text.proofs.generator.Generator.byte.Given as goal

abbrev pub invariant-loop : goal.invariant-loop
invariant-loop l =
    (l.self ≡ numbers_after l.counter l.initial.self) × (l.byte ≡ byte_after l.counter l.initial.self)
