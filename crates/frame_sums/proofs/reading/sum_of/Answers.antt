use Rattle.std.proofs.Common.{rules, ◌≡◌, ◌+◌, ◌*◌, ◌<◌, [], ◌∷◌, ◌++◌, length, get_or, take, drop, slice_set, Some, sym, ap, ◌∙◌, arith}
use Rattle.std.proofs.lemmas.List.{take_more_set}
use Rattle.frame_sums.specs.SumsFile.{digit_value, bytes_after}
use Rattle.frame_sums.proofs.ReadLemmas.{both_spelled}
use Rattle.frame_sums.proofs.reading.sum_of.Goals as goal

pub loop-at-preserved : goal.loop-at-preserved
loop-at-preserved c =
    let i = c.loop-at.at in
    let digits = c.args.digits.now in
    let sum = c.loop-at.sum in
    let value = 16 * c.in_ok-high.high + c.in_ok-low.low in
    let within : 2 * i + 1 < length digits = omega (arith, c.requires, c.loop-at-test.true) in
    let high : digit_value (get_or digits (2 * i) 0) ≡ Some c.in_ok-high.high = cc (c.in_ok-high.ensures.value) in
    let low : digit_value (get_or digits (2 * i + 1) 0) ≡ Some c.in_ok-low.low = cc (c.in_ok-low.ensures.value) in
    let more : take (i + 1) (slice_set sum i value) ≡ take i sum ++ value ∷ []
    = take_more_set sum i value (omega (arith, c.loop-at.invariant.size, c.loop-at-test.true)) in
    record {
      size = search rules;
      read = ap (λ l. bytes_after l (drop (2 * (i + 1)) digits)) more
          ∙ sym (both_spelled digits i within (take i sum) c.in_ok-high.high c.in_ok-low.low high low)
          ∙ c.loop-at.invariant.read;
    }
