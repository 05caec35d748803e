use Rattle.std.proofs.Common.{sym, append-nil}
use Rattle.console_steps.proofs.PassSteps.{overscan, went_on}
use Rattle.console_steps.proofs.passing.pass.Goals as goal

pub returns-then-clocks-clocks_left-clause-at : goal.returns-then-clocks-clocks_left-clause-at
returns-then-clocks-clocks_left-clause-at c = λ w at.
    (went_on c.args.cpu.now c.args.bus.now c.go_on.new.self w c.args.clocks at (c.go_on.ensures.none (overscan c.args.bus.now)) c.go_on.ensures.moved).0

pub returns-then-clocks-clocks_left-clause-bytes : goal.returns-then-clocks-clocks_left-clause-bytes
returns-then-clocks-clocks_left-clause-bytes c = λ w at.
    let q = went_on c.args.cpu.now c.args.bus.now c.go_on.new.self w c.args.clocks at (c.go_on.ensures.none (overscan c.args.bus.now)) c.go_on.ensures.moved in
    rw q.1 (sym (append-nil c.args.waiting.now.items))
