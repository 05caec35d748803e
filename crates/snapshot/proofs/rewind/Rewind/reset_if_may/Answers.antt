use Rattle.std.proofs.Common.{◌≡◌, Bool, true, false}
use Rattle.snapshot.proofs.Pressing.{after_press, after_none}
use Rattle.snapshot.proofs.rewind.Rewind.reset_if_may.Goals as goal

-- an answer is not both
apart : {b : Bool} → b ≡ true → b ≡ false → ⊥
apart on off = cc

pub reset-requires : goal.reset-requires
reset-requires c =
    let (job, n, paths, rested, short) = c.requires.rested in
    record { rested = (job, n, paths, rested, short, (c.may_reset.ensures job n paths rested).0 c.if-may_reset.true) }

pub returns-then-may_reset-clause-reset : goal.returns-then-may_reset-clause-reset
returns-then-may_reset-clause-reset c = λ job n paths rested.
    after_press job n paths _ ((c.may_reset.ensures job n paths rested).0 c.if-may_reset.true) (c.reset.ensures.reset job n paths rested)

pub returns-else-may_reset-clause-reset : goal.returns-else-may_reset-clause-reset
returns-else-may_reset-clause-reset c = λ job n paths rested.
    after_none job n paths c.args.self.now (λ may. apart ((c.may_reset.ensures job n paths rested).1 may) c.if-may_reset.false) rested
