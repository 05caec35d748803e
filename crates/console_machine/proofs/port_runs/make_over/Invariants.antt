use Rattle.std.proofs.Common.{◌≡◌, ◌≤◌}
use Rattle.beam.specs.Places.{clocks_left}
use Rattle.console_steps.specs.ConsoleState.{ConsoleState}
use Rattle.console_machine.specs.PortAccesses.{IsBefore, RunsBefore, stamp_before}
use Rattle.console_machine.proofs.port_runs.make_over.Given as goal

abbrev pub invariant-runs : goal.invariant-runs
invariant-runs g l =
    let P = g.P.Ports in
    record {
      run : RunsBefore P.calls l.region l.goal l.fn.cpu l.cpu l.fn.bus l.bus (P.stands l.fn.ports) (P.stands l.ports);
      some : (w : ConsoleState) → IsBefore l.region l.goal l.fn.cpu l.fn.bus w → (to : ConsoleState) × IsBefore l.region l.goal l.cpu l.bus to;
      fewer : clocks_left l.bus.beam ≤ clocks_left l.fn.bus.beam;
      in_order : P.clock l.ports ≤ stamp_before l.region l.goal l.bus;
      times : P.times l.ports ≡ P.times l.fn.ports;
    }
