use Rattle.std.proofs.Common.{rules, ◌≡◌, sym, ◌∙◌}
use Rattle.dma_hdma.specs.declared.whose.Turn.TheVariants.{Hdma, Dma}
use Rattle.dma_hdma.specs.Channels.{turn_of}
use Rattle.dma_hdma.proofs.TurnLemmas.{hdma_stays, dma_stays, runs_on}
use Rattle.dma_hdma.proofs.transfers.Dma.done.Goals as goal

pub invariant_of-self : goal.invariant_of-self
invariant_of-self c =
    let i = c.self.invariant in
    let turn : turn_of c.self.inside.channels ≡ Hdma c.in-Hdma.x = sym i.0 ∙ c.in-Hdma.is in
    let stays = hdma_stays c.self.inside.channels c.in-Hdma.x c.work_on.new.self turn (search rules) in
    (c.in-Hdma.is ∙ sym stays, search rules, i.2)

pub invariant_of-self-then-self-x : goal.invariant_of-self-then-self-x
invariant_of-self-then-self-x c =
    let i = c.self.invariant in
    let turn : turn_of c.self.inside.channels ≡ Dma c.in-Dma.x = sym i.0 ∙ c.in-Dma.is in
    let stays = dma_stays c.self.inside.channels c.in-Dma.x c.run.new.self _ turn (runs_on _ _ c.run.ensures) (search rules) in
    (c.in-Dma.is ∙ sym stays, search rules, i.2)
