use Rattle.std.proofs.Common.{rules, sym, subst, arith, ◌%◌, IsTrue}
use Rattle.snes_defs.specs.declared.ports.Act.{Act}
use Rattle.snes_defs.specs.declared.ports.Act.TheVariants.{Write as PortWrite}
use Rattle.side_law.specs.Gone.{IsAnswered}
use Rattle.cpu_tables.specs.declared.access.Access.TheVariants.{Write}
use Rattle.console_steps.proofs.RegisterSteps.{port_write_act}
use Rattle.console_machine.proofs.Ports.{port_write_made}
use Rattle.console_machine.proofs.PortAccesses.{made_quietly, at_once_made, port_is_write}
use Rattle.console_machine.proofs.port_runs.write_over.Goals as goal

pub returns-in_default-clause-made : goal.returns-in_default-clause-made
returns-in_default-clause-made g c = λ is p now.
    let P = g.P.Ports in
    let made : IsTrue c.try_write_chip.result = search rules in
    made_quietly P.calls c.args.at (Write c.args.addr c.args.v) c.args.cpu.now c.try_write_chip.new.cpu c.args.bus.now c.try_write_chip.new.bus (P.stands c.args.ports.now) p
    (c.try_write_chip.ensures.made made) now

pub returns-in_default-clause-step : goal.returns-in_default-clause-step
returns-in_default-clause-step g c = λ is.
    let made : IsTrue c.try_write_chip.result = search rules in
    (0, at_once_made c.args.cpu.now c.try_write_chip.new.cpu c.args.bus.now c.try_write_chip.new.bus (Write c.args.addr c.args.v) (c.try_write_chip.ensures.made made))

pub returns-clause-made : goal.returns-clause-made
returns-clause-made g c = λ is p now.
    let P = g.P.Ports in
    let n = c.in-Some.register in
    let v = c.args.v in
    let led = c.in-Some-call.ensures.answered p now in
    let place = c.in-Some.ensures.place c.args.bus.now.board in
    let port = sym c.if-not-is_port.ensures in
    record {
      got = 0;
      small = omega arith;
      ports = led.to;
      ports_stand = led.now_stands;
      answered = subst (λ (a : Act). IsAnswered P.calls c.args.at a 0 p led.to) (port_write_act c.args.bus.now c.args.addr n v (PortWrite (n % 4) v) place (port_is_write n v port c.ranges.v.fits)) (subst (λ g. IsAnswered P.calls c.args.at (PortWrite (n % 4) v) g p led.to) led.led.0 led.led);
      made = port_write_made c.args.cpu.now c.give_byte.new.cpu c.args.bus.now c.give_byte.new.bus c.args.addr n v 0 place (c.in-Some.ensures.lasts c.args.bus.now.io.fast) port
          c.give_byte.ensures.nothing c.give_byte.ensures.rest c.give_byte.ensures.processor;
    }

pub returns-clause-step : goal.returns-clause-step
returns-clause-step g c = λ is. (
  0,
  port_write_made c.args.cpu.now c.give_byte.new.cpu c.args.bus.now c.give_byte.new.bus c.args.addr c.in-Some.register c.args.v 0
      (c.in-Some.ensures.place c.args.bus.now.board) (c.in-Some.ensures.lasts c.args.bus.now.io.fast) (sym c.if-not-is_port.ensures)
      c.give_byte.ensures.nothing c.give_byte.ensures.rest c.give_byte.ensures.processor,
)
