use Rattle.std.proofs.Common.{arith}
use Rattle.frame_sums.proofs.CutLemmas.{cut_closed}
use Rattle.frame_sums.proofs.cuts.Cuts.close.Goals as goal

pub returns-then-self-len-clause-closed : goal.returns-then-self-len-clause-closed
returns-then-self-len-clause-closed c = λ had h.
    let s = c.args.self.now in
    cut_closed s.of s.rows.items s.done s.left c.size-self.result s.part c.finalize_reset.new.self c.finalize_reset.result had c.requires.under_way (omega (arith, s.size, s.rows.ok.0)) c.requires.whole
    (λ k. c.finalize_reset.ensures.digest _ k) c.finalize_reset.ensures.empty (λ lt. c.size-self.ensures.size) h
