use Rattle.std.proofs.Common.{rules, refl, sym, subst, arith}
use Rattle.std.proofs.lemmas.Grind.{common_steps}
use Rattle.console_machine.specs.Parts.{value_of}
use Rattle.console_machine.specs.Side.{ConsoleValue}
use Rattle.console_machine.specs.Silent.{IsSilent}
use Rattle.console_machine.proofs.Runs.{silent_none, silent_next}
use Rattle.console_machine.proofs.parts.Parts.hasten.Goals as goal

pub steps-init : goal.steps-init
steps-init c = record {
  gone = λ w h. silent_none c.args.until (value_of c.args.self.now) w h;
  keeps = λ some. some;
  forward = omega arith;
  region = refl;
  waiting = refl;
}

pub steps-preserved : goal.steps-preserved
steps-preserved c = record {
  gone = λ w h.
      let was = c.steps.invariant.gone w h in
      silent_next c.args.until (value_of c.steps.self) (value_of c.try_step.new.self) w was c.steps-test.true
      (c.if-not-try_step.ensures.made refl was.to was.now_stands);
  keeps = search rules;
  forward = grind (arith, common_steps);
  region = search rules;
  waiting = search rules;
}

pub returns-then-not-try_step-clause-gone : goal.returns-then-not-try_step-clause-gone
returns-then-not-try_step-clause-gone c = λ w h.
    subst (λ (x : ConsoleValue). IsSilent c.args.until x w) (sym (c.if-not-try_step.ensures.stays refl)) (c.steps.invariant.gone w h)
