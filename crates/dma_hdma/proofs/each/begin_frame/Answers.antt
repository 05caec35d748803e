use Rattle.std.proofs.Common.{rules}
use Rattle.std.proofs.lemmas.List.Edits.{map_over_more}
use Rattle.std.proofs.lemmas.List.{take_all, drop_all}
use Rattle.dma_hdma.specs.Channel.{frame_begun}
use Rattle.dma_hdma.proofs.each.begin_frame.Goals as goal

pub loop-channel-preserved : goal.loop-channel-preserved
loop-channel-preserved c = search (rules, map_over_more frame_begun)

pub returns : goal.returns
returns c = search (rules, take_all, drop_all)
