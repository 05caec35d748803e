use Rattle.console_machine.proofs.step.read_at.Goals as goal

pub make_read-requires : goal.make_read-requires
make_read-requires c =
    let found = c.look_up-access.ensures in
    record {
      addr = c.args.addr;
      is = c.requires.read;
      reaches = record { target = found.target; lies = found.lies; within = found.within; clocks = found.clocks };
    }
