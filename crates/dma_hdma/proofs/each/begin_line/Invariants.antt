use Rattle.std.proofs.Common.{◌≡◌, ◌++◌, map, take, drop}
use Rattle.dma_hdma.specs.Channel.{line_begun}
use Rattle.dma_hdma.proofs.each.begin_line.Given as goal

abbrev pub invariant-loop-channel : goal.invariant-loop-channel
invariant-loop-channel l = l.channels ≡ map line_begun (take l.channel-index l.initial.channels) ++ drop l.channel-index l.initial.channels
