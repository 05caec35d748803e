use Rattle.console_machine.proofs.step.write_at.Goals as goal

pub make_write-requires : goal.make_write-requires
make_write-requires c =
    let found = c.look_up-access.ensures in
    record {
      addr = c.args.addr;
      is = c.requires.write;
      reaches = record { target = found.target; lies = found.lies; within = found.within; clocks = found.clocks };
    }
