use Rattle.std.proofs.Common.{ℕ, ◌+◌, ap, ◌∙◌}
use Rattle.console_bus.specs.BusState.{BusState}
use Rattle.console_machine.proofs.Over.{gone_over, goes_over}
use Rattle.console_machine.proofs.many_steps.go_over.Goals as goal

pub returns-clause-goes : goal.returns-clause-goes
returns-clause-goes c = λ cpu byte round last.
    let reached = c.reach_plain_place-due in
    let left = c.clocks_left-left in
    let more = c.refresh_clocks-more in
    let on = gone_over c.args.bus.now reached.new.bus c.go_on.new.self reached.result c.args.round left.result more.result reached.ensures.there left.ensures.clocks more.ensures.clocks c.go_on.ensures.moved in
    goes_over cpu c.args.bus.now reached.new.bus c.go_on.new.self reached.result byte c.args.round _ round last reached.ensures.there c.requires.enough c.requires.short on
    (ap (λ (n : ℕ). c.args.round + n) more.ensures.clocks)

pub returns-clause-last : goal.returns-clause-last
returns-clause-last c =
    let reached = c.reach_plain_place-due in
    ap (λ (r : BusState). r.last) c.go_on.ensures.moved ∙ ap (λ (r : BusState). r.last) reached.ensures.there.on
