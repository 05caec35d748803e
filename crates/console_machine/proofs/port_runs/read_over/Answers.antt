use Rattle.std.proofs.Common.{rules, sym, subst, ◌%◌}
use Rattle.snes_defs.specs.declared.ports.Act.{Act}
use Rattle.snes_defs.specs.declared.ports.Act.TheVariants.{Read as PortRead}
use Rattle.side_law.specs.Gone.{IsAnswered}
use Rattle.cpu_tables.specs.declared.access.Access.TheVariants.{Read}
use Rattle.console_steps.proofs.RegisterSteps.{register_read_made, port_read_act}
use Rattle.console_machine.proofs.Ports.{port_read_made}
use Rattle.console_machine.proofs.PortAccesses.{made_quietly, at_once_made, port_is_read}
use Rattle.console_machine.proofs.port_runs.read_over.Goals as goal

pub returns-then-not-is_port-clause-made : goal.returns-then-not-is_port-clause-made
returns-then-not-is_port-clause-made g c = λ is p now.
    let P = g.P.Ports in
    made_quietly P.calls c.args.at (Read c.args.addr) c.args.cpu.now c.take_register.new.cpu c.args.bus.now c.take_register.new.bus (P.stands c.args.ports.now) p
    (register_read_made c.args.cpu.now c.take_register.new.cpu c.args.bus.now c.take_register.new.bus c.args.addr c.in-Some.register
    (c.in-Some.ensures.place c.args.bus.now.board) (c.in-Some.ensures.lasts c.args.bus.now.io.fast) (sym c.if-not-is_port.ensures)
    c.take_register.ensures.nothing c.take_register.ensures.rest c.take_register.ensures.processor) now

pub returns-then-not-is_port-clause-step : goal.returns-then-not-is_port-clause-step
returns-then-not-is_port-clause-step g c = λ is. (
  0,
  at_once_made c.args.cpu.now c.take_register.new.cpu c.args.bus.now c.take_register.new.bus (Read c.args.addr)
      (register_read_made c.args.cpu.now c.take_register.new.cpu c.args.bus.now c.take_register.new.bus c.args.addr c.in-Some.register
      (c.in-Some.ensures.place c.args.bus.now.board) (c.in-Some.ensures.lasts c.args.bus.now.io.fast) (sym c.if-not-is_port.ensures)
      c.take_register.ensures.nothing c.take_register.ensures.rest c.take_register.ensures.processor),
)

pub returns-clause-made : goal.returns-clause-made
returns-clause-made g c = λ is p now.
    let P = g.P.Ports in
    let n = c.in-Some.register in
    let got = c.in-Some-call.got in
    let led = c.in-Some-call.ensures.answered p now in
    let place = c.in-Some.ensures.place c.args.bus.now.board in
    let port = sym c.if-not-is_port.ensures in
    record {
      got = got;
      small = search rules;
      ports = led.to;
      ports_stand = led.now_stands;
      answered = subst (λ (a : Act). IsAnswered P.calls c.args.at a got p led.to) (port_read_act c.args.bus.now c.args.addr n (PortRead (n % 4)) place (port_is_read n port)) led.led;
      made = port_read_made c.args.cpu.now c.take_byte.new.cpu c.args.bus.now c.take_byte.new.bus c.args.addr n got place (c.in-Some.ensures.lasts c.args.bus.now.io.fast) port
          c.take_byte.ensures.nothing c.take_byte.ensures.rest c.take_byte.ensures.processor;
    }

pub returns-clause-step : goal.returns-clause-step
returns-clause-step g c = λ is. (
  c.in-Some-call.got,
  port_read_made c.args.cpu.now c.take_byte.new.cpu c.args.bus.now c.take_byte.new.bus c.args.addr c.in-Some.register c.in-Some-call.got
      (c.in-Some.ensures.place c.args.bus.now.board) (c.in-Some.ensures.lasts c.args.bus.now.io.fast) (sym c.if-not-is_port.ensures)
      c.take_byte.ensures.nothing c.take_byte.ensures.rest c.take_byte.ensures.processor,
)
