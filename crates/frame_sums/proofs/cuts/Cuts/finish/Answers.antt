use Rattle.std.proofs.Common.{rules, ◌+◌, sym, subst, arith}
use Rattle.sha2.specs.Hashers.{Holds256}
use Rattle.frame_sums.proofs.CutLemmas.{row_written}
use Rattle.frame_sums.proofs.PieceLemmas.{starts_rise, piece_is, piece_none}
use Rattle.frame_sums.proofs.cuts.Cuts.finish.Goals as goal

pub finishing-init : goal.finishing-init
finishing-init c =
    let s = c.args.self in
    record {
      size = s.size;
      within = s.within;
      over = λ bytes h f lt. h.rows_are f lt;
      part = λ bytes h lt. subst (Holds256 s.part) (sym (piece_is s.of.region s.of.side s.done bytes (omega (arith, h.left_is lt)))) (h.part_holds lt);
      last = λ bytes h lt. omega (arith, h.left_is lt);
    }

pub finishing-preserved : goal.finishing-preserved
finishing-preserved c =
    let s = c.args.self in
    let l = c.finishing in
    record {
      size = search rules;
      within = omega (arith, c.finishing-test.true, l.invariant.size);
      over = λ bytes h.
          row_written s.of l.rows.items l.done c.finalize_reset.result bytes (omega (arith, l.rows.ok.0, c.finishing-test.true))
          (c.finalize_reset.ensures.digest _ (l.invariant.part bytes h (omega (arith, c.finishing-test.true, l.invariant.size)))) (l.invariant.over bytes h);
      part = λ bytes h lt.
          subst (Holds256 c.finalize_reset.new.self)
          (sym (piece_none s.of.region s.of.side (l.done + 1) bytes (l.invariant.last bytes h (omega (arith, c.finishing-test.true, l.invariant.size))))) c.finalize_reset.ensures.empty;
      last = λ bytes h lt.
          omega (arith, l.invariant.last bytes h (omega (arith, c.finishing-test.true, l.invariant.size)), starts_rise s.of.region s.of.side (l.done + 1));
    }

pub returns-clause-rows : goal.returns-clause-rows
returns-clause-rows c = λ bytes h f lt. c.finishing.invariant.over bytes h f (omega (arith, lt, c.finishing-test.false, c.finishing.invariant.size))
