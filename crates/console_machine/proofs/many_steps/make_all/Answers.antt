use Rattle.console_machine.proofs.Follows.{follows_none, follows_then}
use Rattle.console_machine.proofs.Wholes.{whole_then}
use Rattle.console_machine.proofs.many_steps.make_all.Goals as goal

pub steps-init : goal.steps-init
steps-init c = record { follows = follows_none c.args.cpu.now c.args.bus.now }

pub steps-preserved : goal.steps-preserved
steps-preserved c = record {
  follows = follows_then c.args.cpu.now c.steps.cpu c.make_one.new.cpu c.args.bus.now c.steps.bus c.make_one.new.bus c.steps.invariant.follows
      (whole_then c.steps.cpu c.make_whole.new.cpu c.make_one.new.cpu c.steps.bus c.make_whole.new.bus c.make_one.new.bus c.make_whole.ensures c.make_one.ensures);
}

pub returns-then-not-make_one : goal.returns-then-not-make_one
returns-then-not-make_one c =
    follows_then c.args.cpu.now c.steps.cpu c.make_one.new.cpu c.args.bus.now c.steps.bus c.make_one.new.bus c.steps.invariant.follows
    (whole_then c.steps.cpu c.make_whole.new.cpu c.make_one.new.cpu c.steps.bus c.make_whole.new.bus c.make_one.new.bus c.make_whole.ensures c.make_one.ensures)
