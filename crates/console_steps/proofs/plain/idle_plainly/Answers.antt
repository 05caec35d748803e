use Rattle.std.proofs.Common.{refl}
use Rattle.console_steps.proofs.Wires.{given_again}
use Rattle.console_steps.proofs.plain.idle_plainly.Goals as goal

pub returns-clause-made : goal.returns-clause-made
returns-clause-made c = λ wired. record {
  quiet = refl;
  lasts = refl;
  nothing = c.rest_plainly.ensures.nothing;
  rest = c.rest_plainly.ensures.rest;
  processor = λ s h. given_again c.args.cpu.now c.rest_plainly.new.cpu c.args.bus.now s 0 wired h (c.rest_plainly.ensures.processor s h);
}
