use Rattle.std.proofs.Common.{◌≡◌, ◌++◌, take, drop}
use Rattle.dma_hdma.specs.Channel.{started}
use Rattle.dma_hdma.specs.Channels.{by_bits}
use Rattle.dma_hdma.proofs.EachLemmas.{halved}
use Rattle.dma_hdma.proofs.each.start_each.Given as goal

abbrev pub invariant-loop-channel : goal.invariant-loop-channel
invariant-loop-channel l = record {
  done : l.channels ≡ by_bits started (take l.channel-index l.initial.channels) l.fn.mask ++ drop l.channel-index l.initial.channels;
  bits : l.bits ≡ halved l.channel-index l.fn.mask;
}
