use Rattle.std.proofs.Common.{rules, sym}
use Rattle.std.proofs.lemmas.List.{take_all, drop_all}
use Rattle.dma_hdma.specs.Channel.{enabled_as}
use Rattle.dma_hdma.proofs.EachLemmas.{halved_next, by_bits_over_more}
use Rattle.dma_hdma.proofs.each.enable_each.Goals as goal

pub loop-channel-preserved : goal.loop-channel-preserved
loop-channel-preserved c = record {
  done = rw (c.enable.ensures, c.loop-channel.invariant.bits) (search (rules, by_bits_over_more enabled_as));
  bits = rw c.loop-channel.invariant.bits (sym (halved_next c.loop-channel.channel-index c.args.mask));
}

pub returns : goal.returns
returns c = search (rules, take_all, drop_all)
