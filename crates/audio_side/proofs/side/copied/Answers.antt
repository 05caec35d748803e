use Rattle.std.proofs.Common.{◌∙◌, ◌≤◌, arith, lit≤, refl, slice_index}
use Rattle.std.proofs.Math.Nat.{not-suc-le-zero}
use Rattle.std.proofs.lemmas.List.Elements.{All-replicate}
use Rattle.std.proofs.lemmas.List.FromFn.{fill_by_all}
use Rattle.audio_side.specs.HardwareState.{table_of}
use Rattle.audio_side.proofs.side.copied.Goals as goal

pub numbers-init : goal.numbers-init
numbers-init c =
    record { whole = refl; same = λ k h. absurd (not-suc-le-zero h); small = All-replicate (λ n. n ≤ 2047) 512 0 (lit≤ tt) }

pub returns : goal.returns
unfolding table_of
returns c =
    c.of.ensures.kept ∙ fill_by_all (λ i. slice_index c.args.table.now i) c.numbers.numbers 512 0 c.numbers.invariant.whole (λ k h. c.numbers.invariant.same k (omega arith))
