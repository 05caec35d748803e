-- The step that is due, by the processor and all else.
use Rattle.std.specs.Prelude.{if◌then◌else◌}
use Rattle.cpu65816.specs.Instruction.{CpuState, next_of}
use Rattle.dma_hdma.specs.Channels.{due_of as transfer_of}
use Rattle.console_bus.specs.BusState.{BusState}
use Rattle.console_steps.specs.ConsoleState.{Due, Resets, Refreshes, due_after}

abbrev pub due_from : CpuState → BusState → Due
due_from s r =
    if r.reset then Resets
    else (if r.refresh then Refreshes
    else due_after (transfer_of r.channels) (next_of s))
